use Rattle.std.proofs.Common.{◌≡◌, false, take}
use Rattle.explore_verdict.specs.Judged.{is_any}
use Rattle.explore_verdict.proofs.judging.is_any.Given as goal

abbrev pub invariant-loop-flag : goal.invariant-loop-flag
invariant-loop-flag l = is_any (take l.flag-index l.flags) ≡ false
