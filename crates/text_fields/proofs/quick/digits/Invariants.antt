use Rattle.std.proofs.Common.{◌-◌, ◌≤◌}
use Rattle.text_fields.proofs.QuickFields.{AreDigitsOf}
use Rattle.text_fields.proofs.quick.digits.Given as goal

abbrev pub invariant-loop-place : goal.invariant-loop-place
invariant-loop-place l = record {
  most : l.place ≤ l.most;
  read : AreDigitsOf l.base l.text l.place l.value;
}

abbrev pub decreases-loop-place : goal.decreases-loop-place
decreases-loop-place l = l.most - l.place
