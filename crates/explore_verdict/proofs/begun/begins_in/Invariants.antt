use Rattle.std.proofs.Common.{◌≡◌, take, false}
use Rattle.std.specs.List.{list_any}
use Rattle.explore_verdict.specs.Begun.{is_begun_at}
use Rattle.explore_verdict.proofs.begun.begins_in.Given as goal

abbrev pub invariant-loop-at : goal.invariant-loop-at
invariant-loop-at l = list_any (is_begun_at l.mesher) (take l.at-index l.phases) ≡ false
