use Rattle.mesh_lock.proofs.TakenReads.{LeftBelow}
use Rattle.mesh_lock.proofs.BuiltHistories.{IsTakenUpTo}
use Rattle.mesh_lock.proofs.reads.take_all.Given as goal

abbrev pub invariant-loop-w : goal.invariant-loop-w
invariant-loop-w l = record {
  taken : IsTakenUpTo l.n l.w l.plain l.initial.rests l.rests l.initial.history.items l.history.items;
  left : LeftBelow l.n l.plain l.initial.rests l.rests l.w;
}
