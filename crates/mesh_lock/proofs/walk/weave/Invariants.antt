use Rattle.mesh_lock.specs.Seat.{calls_of_seats}
use Rattle.mesh_lock.proofs.WalkRounds.{Goes}
use Rattle.mesh_lock.proofs.walk.weave.Given as goal

abbrev pub invariant-loop-n : goal.invariant-loop-n
invariant-loop-n l = Goes (calls_of_seats l.seats) l.journal.entries l.n l.plain l.rests.items l.history.items l.told
