use Rattle.std.proofs.Common.{◌≡◌, ◌+◌, ◌*◌, ◌<◌, ◌++◌, length, slice_range}
use Rattle.history_object.specs.ObjectBytes.{bytes_of}
use Rattle.history_object.proofs.ByRuns.{IsLeft}
use Rattle.history_object.proofs.bytes.ObjectBytes.load.Given as goal

-- the bytes so far and those that are left are all
abbrev pub invariant-loop-left : goal.invariant-loop-left
invariant-loop-left l = record {
  within : l.place < 64;
  left : IsLeft l.number l.place l.left (l.off + l.len);
  count : length l.bytes.items + l.left ≡ l.len;
  all : l.bytes.items ++ slice_range (bytes_of l.self) (l.number * 64 + l.place) (l.number * 64 + l.place + l.left)
      ≡ slice_range (bytes_of l.self) l.off (l.off + l.len);
}

abbrev pub decreases-loop-left : goal.decreases-loop-left
decreases-loop-left l = l.left
