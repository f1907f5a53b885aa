use Rattle.std.proofs.Common.{arith}
use Rattle.mesh_arena.proofs.Changes.{writes}
use Rattle.mesh_arena.proofs.Ties.{tied_by_write}
use Rattle.mesh_arena.proofs.arena.Arena.write.Goals as goal

pub write-requires-clause-taken : goal.write-requires-clause-taken
write-requires-clause-taken c = rw (c.index-place.ensures, c.self.view_is) c.requires.taken

pub invariant_of-self : goal.invariant_of-self
invariant_of-self c =
    rw (c.write.ensures.written, c.index-place.ensures) (tied_by_write _ _ _ _ c.self.invariant (rw (← c.self.view_is) at c.requires.taken))

pub returns-clause-writes : goal.returns-clause-writes
returns-clause-writes c =
    let sized = rw (c.index-place.ensures) at c.write.ensures.sized in
    rw (c.write.ensures.written, c.index-place.ensures, ← c.self.view_is) (writes _ _ _ _ (rw (← c.self.view_is) at c.requires.taken) (omega arith))
