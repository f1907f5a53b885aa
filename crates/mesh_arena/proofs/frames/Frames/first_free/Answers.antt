use Rattle.mesh_arena.proofs.Given.{lowest-given}
use Rattle.mesh_arena.proofs.frames.Frames.first_free.Goals as goal

pub returns-in-Some-clause-passed : goal.returns-in-Some-clause-passed
returns-in-Some-clause-passed c =
    let lowest = lowest-given c.self.inside.made.items c.self.inside.given c.self.inside.count c.in-Some.place c.self.invariant.0 c.self.invariant.1 c.in-Some.ensures in
    rw (← c.self.view_is) lowest.passed
