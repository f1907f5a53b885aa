use Rattle.mesh_page_heap.proofs.Loops.{UnmapsFirst}
use Rattle.mesh_page_heap.specs.Indexes.{layout_of}
use Rattle.mesh_page_heap.proofs.page_heap.sweep.unmap_group.Given as goal

abbrev pub invariant-pages : goal.invariant-pages
invariant-pages l = UnmapsFirst (layout_of l.spans) l.initial.map l.map l.n l.i
