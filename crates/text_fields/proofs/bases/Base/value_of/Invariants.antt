use Rattle.std.proofs.Common.{◌≡◌, true, take}
use Rattle.std.specs.List.{list_all}
use Rattle.text_fields.specs.Bases.{is_digit, value_in}
use Rattle.text_fields.proofs.bases.Base.value_of.Given as goal

abbrev pub invariant-loop-byte : goal.invariant-loop-byte
invariant-loop-byte l = record {
  value : l.value ≡ value_in l.self (take l.byte-index l.digits);
  digits : list_all (is_digit l.self) (take l.byte-index l.digits) ≡ true;
}
