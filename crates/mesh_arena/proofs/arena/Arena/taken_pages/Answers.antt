use Rattle.std.proofs.Common.{arith}
use Rattle.mesh_arena.proofs.Counts.{free_count-le-length}
use Rattle.mesh_arena.proofs.arena.Arena.taken_pages.Goals as goal

pub overflow_sub-result : goal.overflow_sub-result
overflow_sub-result c = omega (arith, free_count-le-length c.self.inside.frames, c.self.invariant.counted, c.self.invariant.few, c.count.ensures)

pub returns : goal.returns
returns c =
    rw (← c.self.view_is) (omega (arith, free_count-le-length c.self.inside.frames, c.self.invariant.counted, c.self.invariant.few, c.count.ensures))
