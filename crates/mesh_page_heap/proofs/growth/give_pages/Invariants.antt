use Rattle.std.proofs.Common.{◌≡◌, drop}
use Rattle.mesh_page_heap.proofs.GrowthLemmas.{AreTakenFrom}
use Rattle.mesh_page_heap.specs.Growth.{GivesFirst, given_back}
use Rattle.mesh_page_heap.proofs.growth.give_pages.Given as goal

abbrev pub invariant-loop-page : goal.invariant-loop-page
invariant-loop-page l =
    AreTakenFrom l.arena l.pages l.page-index × (given_back l.arena (drop l.page-index l.pages) ≡ given_back l.initial.arena l.pages)
    × GivesFirst l.initial.arena l.arena l.pages l.page-index
