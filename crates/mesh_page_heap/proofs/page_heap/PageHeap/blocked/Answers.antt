use Rattle.std.proofs.Common.{sym, subst}
use Rattle.mesh_page_heap.proofs.PageHeapBytes.{object_backed}
use Rattle.mesh_page_heap.specs.Indexes.{layout_of}
use Rattle.mesh_page_heap.specs.Layout.{AreInObject}
use Rattle.mesh_page_heap.specs.PageHeap.{PageHeap}
use Rattle.mesh_page_heap.proofs.page_heap.PageHeap.blocked.Goals as goal

pub blocked-requires-clause-backed : goal.blocked-requires-clause-backed
blocked-requires-clause-backed c =
    object_backed _ _ _ _ _ _ _ c.sound.ensures c.self.invariant
    (subst (λ (g : PageHeap). AreInObject (layout_of g.index) c.args.addr c.args.len) (sym c.self.view_is) c.requires.object)
