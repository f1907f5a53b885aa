use Rattle.std.proofs.Common.{length, sym, subst}
use Rattle.mesh_page_heap.proofs.PageHeapBytes.{object_backed}
use Rattle.mesh_page_heap.specs.Indexes.{layout_of}
use Rattle.mesh_page_heap.specs.Layout.{AreInObject}
use Rattle.mesh_page_heap.specs.PageHeap.{PageHeap}
use Rattle.mesh_page_heap.proofs.page_heap.PageHeap.load.Goals as goal

pub load-requires-clause-backed : goal.load-requires-clause-backed
load-requires-clause-backed c =
    object_backed _ _ _ _ _ _ _ c.sound.ensures c.self.invariant
    (subst (λ (g : PageHeap). AreInObject (layout_of g.index) c.args.addr (length c.args.out.now)) (sym c.self.view_is) c.requires.object)
