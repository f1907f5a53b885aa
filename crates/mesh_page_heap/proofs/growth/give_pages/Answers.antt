use Rattle.std.proofs.Common.{◌≡◌, ◌∙◌, slice_index, arith}
use Rattle.std.proofs.lemmas.Grind.{common_steps}
use Rattle.mesh_page_heap.proofs.Loops.{gives_more}
use Rattle.mesh_page_heap.proofs.GrowthLemmas.{given_step, taken_after}
use Rattle.mesh_page_heap.proofs.growth.give_pages.Goals as goal

pub loop-page-preserved : goal.loop-page-preserved
loop-page-preserved c =
    let at : slice_index c.args.pages.now c.loop-page.page-index ≡ c.page-item.result = grind (arith, common_steps) in (
      taken_after c.args.arena.now c.loop-page.arena c.give.new.self c.args.pages.now c.loop-page.page-index c.page-item.result c.requires at
          (omega arith) c.loop-page.invariant.0 c.give.ensures.gives,
      given_step c.loop-page.arena c.give.new.self c.args.pages.now c.loop-page.page-index c.page-item.result (omega arith) at c.give.ensures.free
          ∙ c.loop-page.invariant.1,
      gives_more c.args.arena.now c.loop-page.arena c.give.new.self c.args.pages.now c.loop-page.page-index c.page-item.result c.requires.apart
          c.loop-page.invariant.2 (omega arith) at c.give.ensures.gives,
    )
