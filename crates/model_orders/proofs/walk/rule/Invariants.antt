use Rattle.std.proofs.Common.{◌≡◌, drop, length}
use Rattle.model_orders.specs.Wrong.{first_wrong, first_wrong_from}
use Rattle.model_orders.proofs.walk.rule.Given as goal

abbrev pub invariant-loop-place : goal.invariant-loop-place
invariant-loop-place l = record {
  end : l.place-end ≡ length l.steps;
  rest : first_wrong_from l.place l.facts (drop l.place l.steps) ≡ first_wrong l.steps;
}
