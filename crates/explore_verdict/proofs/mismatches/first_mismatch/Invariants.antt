use Rattle.std.proofs.Common.{◌≡◌, length}
use Rattle.explore_verdict.specs.Mismatches.{first_mismatch}
use Rattle.explore_verdict.proofs.mismatches.first_mismatch.Given as goal

abbrev pub invariant-loop-rest : goal.invariant-loop-rest
invariant-loop-rest l = first_mismatch l.state.setting l.state.state l.rest ≡ first_mismatch l.state.setting l.state.state l.conditions

abbrev pub decreases-loop-rest : goal.decreases-loop-rest
decreases-loop-rest l = length l.rest
