use Rattle.std.proofs.Common.{◌≡◌, ◌+◌, ◌*◌, ◌<◌, length, slice_range}
use Rattle.std.specs.Str.{bytes_eq}
use Rattle.history_object.specs.ObjectBytes.{bytes_of}
use Rattle.history_object.proofs.ByRuns.{IsLeft}
use Rattle.history_object.proofs.bytes.ObjectBytes.has.Given as goal

-- the bytes that are left tell whether all are the same
abbrev pub invariant-loop-rest : goal.invariant-loop-rest
invariant-loop-rest l = record {
  within : l.place < 64;
  left : IsLeft l.number l.place (length l.rest) (l.off + length l.bytes);
  same : bytes_eq l.rest (slice_range (bytes_of l.self) (l.number * 64 + l.place) (l.number * 64 + l.place + length l.rest))
      ≡ bytes_eq l.bytes (slice_range (bytes_of l.self) l.off (l.off + length l.bytes));
}

abbrev pub decreases-loop-rest : goal.decreases-loop-rest
decreases-loop-rest l = length l.rest
