use Rattle.model_memory.specs.SeatLaws.{AreSeatedBelow}
use Rattle.mesh_lock.specs.Seat.{numbers_of}
use Rattle.mesh_lock.proofs.missing.missing.Given as goal

abbrev pub invariant-loop-w : goal.invariant-loop-w
invariant-loop-w l = AreSeatedBelow (numbers_of l.seats) l.w
