use Rattle.std.proofs.Common.{◌≡◌, ◌<◌, ◌≤◌, ℕ, length, take, vec_len, vec_capacity}
use Rattle.std.specs.List.{All}
use Rattle.model_memory.specs.Reads.{kept_by}
use Rattle.mesh_lock.specs.Seat.{IsKept, calls_of_seats}
use Rattle.mesh_lock.proofs.walk.rests_of.Given as goal

abbrev pub invariant-loop-k : goal.invariant-loop-k
invariant-loop-k l = record {
  rests : l.rests.items ≡ calls_of_seats (take l.k l.seats);
  kept : (w : ℕ) → w < l.k → All IsKept (kept_by (calls_of_seats l.seats) w);
  many : vec_len l.rests ≡ l.k;
  room : length l.seats ≤ vec_capacity l.rests;
}
