use Rattle.std.proofs.Common.{◌≡◌, ◌+◌}
use Rattle.mesh_page_heap.specs.Growth.{MapsFirst}
use Rattle.mesh_page_heap.proofs.growth.map_pages.Given as goal

abbrev pub invariant-loop-page : goal.invariant-loop-page
invariant-loop-page l = (l.first + l.page-index ≡ l.vpage) × MapsFirst l.initial.map l.map l.first l.pages l.page-index
