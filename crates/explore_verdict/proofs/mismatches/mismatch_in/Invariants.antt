use Rattle.std.proofs.Common.{◌≡◌, length}
use Rattle.explore_verdict.specs.Mismatches.{mismatch_in}
use Rattle.explore_verdict.proofs.mismatches.mismatch_in.Given as goal

abbrev pub invariant-loop-rest : goal.invariant-loop-rest
invariant-loop-rest l = mismatch_in l.state.setting l.state.state l.rest ≡ mismatch_in l.state.setting l.state.state l.clauses

abbrev pub decreases-loop-rest : goal.decreases-loop-rest
decreases-loop-rest l = length l.rest
