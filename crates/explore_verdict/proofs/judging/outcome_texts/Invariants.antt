use Rattle.std.proofs.Common.{◌≡◌, length}
use Rattle.explore_verdict.specs.Judged.{outcome_texts}
use Rattle.explore_verdict.specs.TextSets.{distinct, with_texts}
use Rattle.explore_verdict.proofs.judging.outcome_texts.Given as goal

abbrev pub invariant-loop-rest : goal.invariant-loop-rest
invariant-loop-rest l =
    with_texts l.set (outcome_texts l.states.setting l.states.states l.rest) ≡ distinct (outcome_texts l.states.setting l.states.states l.outcomes)

abbrev pub decreases-loop-rest : goal.decreases-loop-rest
decreases-loop-rest l = length l.rest
