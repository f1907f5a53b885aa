use Rattle.std.proofs.Common.{length}
use Rattle.std.specs.List.{All}
use Rattle.mesh_lock.specs.Seat.{IsKept}
use Rattle.mesh_lock.specs.Walk.{IsTakenTo}
use Rattle.mesh_lock.proofs.reads.take_reads.Given as goal

abbrev pub invariant-loop-kept : goal.invariant-loop-kept
invariant-loop-kept l = record {
  taken : IsTakenTo l.n l.worker l.plain l.calls l.rest l.initial.history.items l.history.items;
  kept : All IsKept l.rest;
}

abbrev pub decreases-loop-kept : goal.decreases-loop-kept
decreases-loop-kept l = length l.rest
