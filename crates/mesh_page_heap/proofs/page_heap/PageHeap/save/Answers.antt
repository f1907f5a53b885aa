use Rattle.std.proofs.Common.{length, sym, subst}
use Rattle.mesh_page_heap.proofs.PageHeapBytes.{object_backed, page_heap_store}
use Rattle.mesh_page_heap.specs.Indexes.{layout_of}
use Rattle.mesh_page_heap.specs.Layout.{AreInObject}
use Rattle.mesh_store.specs.Places.{IsOpen}
use Rattle.mesh_page_heap.specs.PageHeap.{PageHeap}
use Rattle.mesh_page_heap.proofs.page_heap.PageHeap.save.Goals as goal

pub save-requires-clause-backed : goal.save-requires-clause-backed
save-requires-clause-backed c =
    object_backed _ _ _ _ _ _ _ c.sound.ensures c.self.invariant
    (subst (λ (g : PageHeap). AreInObject (layout_of g.index) c.args.addr (length c.args.bytes.now)) (sym c.self.view_is) c.requires.object)

pub invariant_of-self : goal.invariant_of-self
invariant_of-self c =
    rw c.save.ensures.map (page_heap_store _ _ _ _ _ _ _ _ c.sound.ensures c.self.invariant
    (subst (λ (g : PageHeap). AreInObject (layout_of g.index) c.args.addr (length c.args.bytes.now)) (sym c.self.view_is) c.requires.object)
    (subst (λ (g : PageHeap). IsOpen g.map c.args.addr (length c.args.bytes.now)) (sym c.self.view_is) c.requires.writable) c.save.ensures.saves)
