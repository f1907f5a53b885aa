use Rattle.std.proofs.Common.{◌≡◌, length}
use Rattle.mesh_page_heap.specs.Growth.{TakesAll, given_back}
use Rattle.mesh_page_heap.proofs.growth.take_pages.Given as goal

abbrev pub invariant-pages : goal.invariant-pages
invariant-pages l =
    (length l.pages.items ≡ l._taken) × TakesAll l.initial.arena l.arena l.pages.items × (given_back l.arena l.pages.items ≡ l.initial.arena)
