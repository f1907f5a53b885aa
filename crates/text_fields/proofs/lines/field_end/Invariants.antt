use Rattle.std.proofs.Common.{◌≡◌, ◌-◌, ◌≤◌, true, drop, take}
use Rattle.std.specs.List.{list_all}
use Rattle.text_fields.specs.Lines.{is_field_byte}
use Rattle.text_fields.proofs.lines.field_end.Given as goal

abbrev pub invariant-loop-place : goal.invariant-loop-place
invariant-loop-place l = record {
  least : l.start ≤ l.place;
  most : l.place ≤ l.most;
  bytes : list_all is_field_byte (take (l.place - l.start) (drop l.start l.text)) ≡ true;
}

abbrev pub decreases-loop-place : goal.decreases-loop-place
decreases-loop-place l = l.most - l.place
