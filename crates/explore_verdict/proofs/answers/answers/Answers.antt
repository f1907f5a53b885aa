use Rattle.std.proofs.Common.{[], refl}
use Rattle.explore_verdict.specs.Answers.{answers_from, lone}
use Rattle.explore_verdict.proofs.Blocks.{finished}
use Rattle.explore_verdict.proofs.answers.answers.Goals as goal

pub returns : goal.returns
returns c = finished answers_from lone (λ begun. refl) _ _ _ _ _ _ _ _ (c.in_default.ensures.none refl) c.loop-line.invariant (c.in_ok-take-2.ensures []) c.in_ok-close.ensures.done
