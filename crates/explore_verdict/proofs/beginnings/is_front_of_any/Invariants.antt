use Rattle.std.proofs.Common.{◌≡◌, length}
use Rattle.std.specs.List.{list_any}
use Rattle.explore_verdict.specs.Beginnings.{begins_with}
use Rattle.explore_verdict.proofs.beginnings.is_front_of_any.Given as goal

abbrev pub invariant-loop-rest : goal.invariant-loop-rest
invariant-loop-rest l = list_any (begins_with l.front) l.rest ≡ list_any (begins_with l.front) l.refusals

abbrev pub decreases-loop-rest : goal.decreases-loop-rest
decreases-loop-rest l = length l.rest
