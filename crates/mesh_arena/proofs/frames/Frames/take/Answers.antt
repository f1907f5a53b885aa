use Rattle.std.proofs.Common.{arith, length-set}
use Rattle.mesh_arena.proofs.Given.{made-remove}
use Rattle.mesh_arena.proofs.frames.Frames.take.Goals as goal

pub invariant_of-self : goal.invariant_of-self
invariant_of-self c =
    let sized = length-set c.self.inside.made.items c.args.place c.clear.new.self in
    rw c.remove.ensures (made-remove _ _ _ _ c.self.invariant.0, omega (arith, sized, c.self.invariant.1), c.self.invariant.2, c.self.invariant.3)
