use Rattle.mesh_lock.proofs.ComparedCalls.{SameSoFar}
use Rattle.mesh_lock.proofs.differing.first_difference.Given as goal

abbrev pub invariant-loop-n : goal.invariant-loop-n
invariant-loop-n l = SameSoFar l.calls l.rest l.worker l.journal.entries l.n l.place
