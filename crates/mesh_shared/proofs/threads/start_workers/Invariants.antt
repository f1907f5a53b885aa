use Rattle.std.proofs.Common.{◌≡◌, ◌≤◌, ◌<◌, ◌+◌, ℕ, [], length, map, slice_index_or, vec_len, vec_capacity}
use Rattle.std.specs.Vec.Iter.{into_iter_items, into_iter_len}
use Rattle.mesh_lock.specs.Seat.{Seat}
use Rattle.mesh_shared.specs.Runs.{script_of}
use Rattle.mesh_shared.proofs.threads.start_workers.Given as goal

-- one thread was started for each of the first scripts, and the seats of the others are empty
abbrev pub invariant-loop-seat : goal.invariant-loop-seat
invariant-loop-seat g l =
    let rest = l.seat-iterator in
    (vec_len l.workers + into_iter_len rest ≡ length l.scripts) × (length l.scripts ≤ vec_capacity l.workers)
    × ((k : ℕ) (d : Seat) → k < into_iter_len rest → (slice_index_or (into_iter_items rest) k d).calls ≡ [])
    × ((i : ℕ) (d : _) → i < vec_len l.workers → ((slice_index_or l.workers.items i d).promise.tries ≡ l.tries)
    × ((slice_index_or l.workers.items i d).promise.script.now ≡ script_of (map (λ script. script.now) l.scripts) i))
