use Rattle.std.proofs.Common.{◌<◌, ℕ, slice_index_or}
use Rattle.model_memory.specs.Plain.{Entry}
use Rattle.mesh_lock.proofs.missing.has_stranger.Given as goal

abbrev pub invariant-loop-n : goal.invariant-loop-n
invariant-loop-n l = (k : ℕ) (d : Entry) → k < l.n → (slice_index_or l.journal.entries k d).worker < l.count
