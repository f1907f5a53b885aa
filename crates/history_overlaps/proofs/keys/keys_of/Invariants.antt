use Rattle.std.proofs.Common.{◌≡◌, map}
use Rattle.std.specs.List.{All, range_with_len}
use Rattle.history_reading.specs.CallWords.{plain_call}
use Rattle.history_overlaps.specs.Keys.{IsKeyOf}
use Rattle.history_overlaps.proofs.keys.keys_of.Given as goal

abbrev pub invariant-loop-number : goal.invariant-loop-number
invariant-loop-number l = record {
  numbers : map (λ key. key.number) l.keys.items ≡ range_with_len 0 l.number;
  own : All (IsKeyOf (map plain_call l.calls) l.points) l.keys.items;
}
