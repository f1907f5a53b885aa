use Rattle.history_parts.specs.Splits.{AreAfter}
use Rattle.history_parts.proofs.split.all_after.Given as goal

abbrev pub invariant-loop-place : goal.invariant-loop-place
invariant-loop-place l = AreAfter l.kept l.rest
