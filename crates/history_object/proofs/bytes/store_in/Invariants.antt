use Rattle.std.proofs.Common.{◌≡◌, ◌+◌, ◌*◌, ◌<◌, length}
use Rattle.history_object.specs.Chunks.{stored}
use Rattle.history_object.proofs.ByRuns.{IsLeft}
use Rattle.history_object.proofs.bytes.store_in.Given as goal

-- the chunks so far with the bytes that are left are the chunks with all bytes
abbrev pub invariant-loop-rest : goal.invariant-loop-rest
invariant-loop-rest l = record {
  within : l.place < 64;
  left : IsLeft l.number l.place (length l.rest) (l.off + length l.bytes);
  stored : stored l.chunks.items (l.number * 64 + l.place) l.rest ≡ stored l.fn.chunks.items l.off l.bytes;
}

abbrev pub decreases-loop-rest : goal.decreases-loop-rest
decreases-loop-rest l = length l.rest
