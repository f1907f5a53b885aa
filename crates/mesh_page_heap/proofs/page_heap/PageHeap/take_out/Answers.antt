use Rattle.std.proofs.Common.{sym, subst}
use Rattle.model_heap.specs.Sound.{IsSound}
use Rattle.mesh_page_heap.specs.PageHeap.{PageHeap, table_emptied}
use Rattle.mesh_page_heap.proofs.Insides.{seen_of}
use Rattle.mesh_page_heap.proofs.Slots.{out_paged, out_table}
use Rattle.mesh_page_heap.proofs.page_heap.PageHeap.take_out.Goals as goal

pub invariant_of-self : goal.invariant_of-self
invariant_of-self c =
    out_paged (seen_of c.self.inside) c.vacate.new.self c.args.span c.args.slot c.self.invariant
    (record { spans = c.vacate.ensures.spans; groups = c.vacate.ensures.groups; table = c.vacate.ensures.table; closed = c.vacate.ensures.closed })
    (subst (λ (g : PageHeap). IsSound (table_emptied g c.args.span c.args.slot)) (sym c.self.view_is) c.requires.sound)

pub returns-clause-table : goal.returns-clause-table
returns-clause-table c =
    rw (← c.self.view_is) (out_table (seen_of c.self.inside) c.vacate.new.self c.args.span c.args.slot
    (record { spans = c.vacate.ensures.spans; groups = c.vacate.ensures.groups; table = c.vacate.ensures.table; closed = c.vacate.ensures.closed }))
