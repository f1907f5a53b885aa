use Rattle.std.proofs.Common.{◌≡◌, ◌<◌, ℕ, [], slice_index_or}
use Rattle.model_memory.specs.Seats.{calls_of}
use Rattle.mesh_lock.specs.Settle.{recorded_of}
use Rattle.mesh_lock.proofs.differing.differing.Given as goal

abbrev pub invariant-loop-w : goal.invariant-loop-w
invariant-loop-w l = (v : ℕ) → v < l.w → slice_index_or (recorded_of l.seats) v [] ≡ calls_of v l.journal.entries
