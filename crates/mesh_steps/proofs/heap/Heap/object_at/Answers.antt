use Rattle.mesh_page_heap.specs.PageHeap.{IsInSlotOf}
use Rattle.mesh_steps.specs.Heap.{IsObjectAt}
use Rattle.mesh_steps.proofs.Objects.{IfSome_more, in_slot_recorded, object_found}
use Rattle.mesh_steps.proofs.heap.Heap.object_at.Goals as goal

pub returns-clause-there : goal.returns-clause-there
returns-clause-there c =
    rw (← c.self.view_is) (IfSome_more c.occupied_at.result
    (λ o. IsInSlotOf c.self.inside.pages.index c.args.addr o.span o.slot o.offset o.serial o.len)
    (IsObjectAt (record { pages = c.self.inside.pages; next_serial = c.self.inside.next_serial }) c.args.addr)
    (λ o. in_slot_recorded _ _ _ c.self.invariant) c.occupied_at.ensures.there)

pub returns-clause-found : goal.returns-clause-found
returns-clause-found c =
    rw (← c.self.view_is) (λ serial r is within. object_found _ _ _ _ _ c.self.invariant c.occupied_at.ensures.found is within)
