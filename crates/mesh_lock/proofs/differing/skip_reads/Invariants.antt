use Rattle.std.proofs.Common.{◌≡◌, length}
use Rattle.model_memory.specs.Reads.{recorded}
use Rattle.mesh_lock.proofs.differing.skip_reads.Given as goal

abbrev pub invariant-loop-kept : goal.invariant-loop-kept
invariant-loop-kept l = recorded l.rest ≡ recorded l.calls

abbrev pub decreases-loop-kept : goal.decreases-loop-kept
decreases-loop-kept l = length l.rest
