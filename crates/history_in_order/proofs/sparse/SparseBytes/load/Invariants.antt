use Rattle.std.proofs.Common.{◌≡◌, ◌+◌, ◌*◌, ◌-◌, ◌<◌, ◌≤◌, length, slice_range}
use Rattle.history_in_order.proofs.sparse.SparseBytes.load.Given as goal

abbrev pub invariant-loop-bytes : goal.invariant-loop-bytes
invariant-loop-bytes l = record {
  within : length l.bytes.items ≤ l.len;
  place : l.place < 64;
  at : length l.bytes.items < l.len → l.number * 64 + l.place ≡ l.start + length l.bytes.items;
  loaded : l.bytes.items ≡ slice_range l.self l.start (l.start + length l.bytes.items);
}

abbrev pub decreases-loop-bytes : goal.decreases-loop-bytes
decreases-loop-bytes l = l.len - length l.bytes.items
