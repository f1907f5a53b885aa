use Rattle.std.proofs.Common.{◌≡◌, ◌≤◌, length, take, vec_len, vec_capacity}
use Rattle.mesh_lock.specs.Seat.{empty_seats}
use Rattle.mesh_lock.proofs.shared.seats_of.Given as goal

abbrev pub invariant-loop-k : goal.invariant-loop-k
invariant-loop-k l = record {
  seats : l.seats.items ≡ empty_seats 0 (take l.k l.counts);
  many : vec_len l.seats ≡ l.k;
  room : length l.counts ≤ vec_capacity l.seats;
}
