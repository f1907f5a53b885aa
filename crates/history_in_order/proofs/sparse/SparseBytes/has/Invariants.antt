use Rattle.std.proofs.Common.{◌≡◌, ◌+◌, ◌*◌, ◌-◌, ◌<◌, ◌≤◌, length, slice_range, take}
use Rattle.history_in_order.proofs.sparse.SparseBytes.has.Given as goal

abbrev pub invariant-loop-done : goal.invariant-loop-done
invariant-loop-done l = record {
  within : l.done ≤ length l.bytes;
  place : l.place < 64;
  at : l.done < length l.bytes → l.number * 64 + l.place ≡ l.start + l.done;
  same : slice_range l.self l.start (l.start + l.done) ≡ take l.done l.bytes;
}

abbrev pub decreases-loop-done : goal.decreases-loop-done
decreases-loop-done l = length l.bytes - l.done
