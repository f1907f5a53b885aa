use Rattle.std.proofs.Common.{◌≡◌, ◌+◌, ◌≤◌, length}
use Rattle.explore_verdict.specs.Conditions.{example_from}
use Rattle.explore_verdict.proofs.conditions.first_example.Given as goal

abbrev pub invariant-loop-rest : goal.invariant-loop-rest
invariant-loop-rest l = record {
  goes : example_from l.states.states l.outcomes l.condition l.number l.rest ≡ example_from l.states.states l.outcomes l.condition 0 l.order;
  few : l.number + length l.rest ≤ length l.order;
}

abbrev pub decreases-loop-rest : goal.decreases-loop-rest
decreases-loop-rest l = length l.rest
