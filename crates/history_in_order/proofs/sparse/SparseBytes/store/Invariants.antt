use Rattle.std.proofs.Common.{◌≡◌, ◌+◌, ◌*◌, ◌-◌, ◌<◌, ◌≤◌, length, take}
use Rattle.model_memory.specs.Memory.{overwritten}
use Rattle.history_in_order.proofs.sparse.SparseBytes.store.Given as goal

abbrev pub invariant-loop-done : goal.invariant-loop-done
invariant-loop-done l = record {
  within : l.done ≤ length l.bytes;
  place : l.place < 64;
  at : l.done < length l.bytes → l.number * 64 + l.place ≡ l.start + l.done;
  stored : l.self ≡ overwritten l.fn.self l.start (take l.done l.bytes);
}

abbrev pub decreases-loop-done : goal.decreases-loop-done
decreases-loop-done l = length l.bytes - l.done
