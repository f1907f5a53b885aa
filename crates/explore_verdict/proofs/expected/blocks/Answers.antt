use Rattle.std.proofs.Common.{[], refl}
use Rattle.explore_verdict.specs.Expected.{blocks_from, of_begun}
use Rattle.explore_verdict.proofs.Blocks.{finished}
use Rattle.explore_verdict.proofs.expected.blocks.Goals as goal

pub returns : goal.returns
returns c = finished blocks_from of_begun (λ begun. refl) _ _ _ _ _ _ _ _ (c.in_default.ensures.none refl) c.loop-line.invariant (c.in_ok-take-2.ensures []) c.in_ok-close.ensures.done
