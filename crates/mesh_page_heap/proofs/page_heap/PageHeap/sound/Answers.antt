use Rattle.std.proofs.Common.{subst}
use Rattle.mesh_page_heap.specs.PageHeapInvariant.{IsPageHeap}
use Rattle.mesh_spans.specs.Index.{IsIndex}
use Rattle.mesh_page_heap.specs.PageHeap.{PageHeap}
use Rattle.mesh_page_heap.proofs.page_heap.PageHeap.sound.Goals as goal

pub returns-clause-pages : goal.returns-clause-pages
returns-clause-pages c = subst (λ (g : PageHeap). IsPageHeap g.arena g.map g.index g.next_page g.meshes) c.self.view_is c.self.invariant

pub returns-clause-index : goal.returns-clause-index
returns-clause-index c = subst (λ (g : PageHeap). IsIndex g.index.spans g.index.groups) c.self.view_is c.sound.ensures
