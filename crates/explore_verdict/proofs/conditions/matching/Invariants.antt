use Rattle.std.proofs.Common.{◌≡◌, ◌+◌, ◌≤◌, length}
use Rattle.explore_verdict.specs.Conditions.{matching}
use Rattle.explore_verdict.proofs.conditions.matching.Given as goal

abbrev pub invariant-loop-rest : goal.invariant-loop-rest
invariant-loop-rest l = record {
  counted : l.count + matching l.states.states l.rest l.pattern ≡ matching l.states.states l.outcomes l.pattern;
  few : l.count + length l.rest ≤ length l.outcomes;
}

abbrev pub decreases-loop-rest : goal.decreases-loop-rest
decreases-loop-rest l = length l.rest
