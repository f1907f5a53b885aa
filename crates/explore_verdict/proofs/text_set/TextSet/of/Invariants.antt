use Rattle.std.proofs.Common.{◌≡◌, length}
use Rattle.explore_verdict.specs.TextSets.{distinct, with_texts}
use Rattle.explore_verdict.proofs.text_set.TextSet.of.Given as goal

abbrev pub invariant-loop-rest : goal.invariant-loop-rest
invariant-loop-rest l = with_texts l.set l.rest ≡ distinct l.texts

abbrev pub decreases-loop-rest : goal.decreases-loop-rest
decreases-loop-rest l = length l.rest
