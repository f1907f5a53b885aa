use Rattle.std.proofs.Common.{◌≡◌, Some, arith, slice_set}
use Rattle.mesh_arena.specs.Pages.{Takes, blank_page}
use Rattle.mesh_page_heap.proofs.GrowthLemmas.{TakesAll_more, given_back_more}
use Rattle.mesh_page_heap.proofs.growth.take_pages.Goals as goal

pub pages-preserved : goal.pages-preserved
pages-preserved c =
    let takes : Takes c.pages.arena c.take.new.self c.unwrap-page.result = rw c.unwrap-page.ensures at c.take.ensures.takes in
    let taken : c.take.new.self ≡ slice_set c.pages.arena c.unwrap-page.result (Some blank_page) = rw c.unwrap-page.ensures at c.take.ensures.taken in (
      omega (arith, c.push.ensures.len, c.pages.invariant.0),
      rw c.push.ensures.items (TakesAll_more _ _ _ _ _ c.pages.invariant.1 takes),
      rw c.push.ensures.items (given_back_more _ _ _ c.pages.pages.items _ _ c.pages.invariant.2 takes.was_free taken),
    )
