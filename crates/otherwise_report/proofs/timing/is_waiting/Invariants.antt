use Rattle.std.proofs.Common.{◌≡◌, ◌<◌, ℕ, false}
use Rattle.explore_otherwise.specs.Fences.{waits_at_fence}
use Rattle.otherwise_report.proofs.timing.is_waiting.Given as goal

abbrev pub invariant-loop-mesher : goal.invariant-loop-mesher
invariant-loop-mesher l = (k : ℕ) → k < l.mesher → waits_at_fence l.at.setting l.at.state k ≡ false
