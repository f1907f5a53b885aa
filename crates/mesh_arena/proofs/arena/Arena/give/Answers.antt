use Rattle.std.proofs.Common.{arith}
use Rattle.mesh_arena.proofs.Changes.{gives}
use Rattle.mesh_arena.proofs.Ties.{tied_by_give, tied-small}
use Rattle.mesh_arena.proofs.arena.Arena.give.Goals as goal

pub give-requires : goal.give-requires
give-requires c = rw (c.index.ensures, c.self.view_is) c.requires

pub overflow_add-self : goal.overflow_add-self
overflow_add-self c = omega (arith, tied-small _ _ c.self.invariant)

pub invariant_of-self : goal.invariant_of-self
invariant_of-self c =
    rw (c.give.ensures, c.index.ensures) (tied_by_give _ _ _ c.self.invariant (rw (← c.self.view_is) at c.requires))

pub returns-clause-gives : goal.returns-clause-gives
returns-clause-gives c =
    rw (c.give.ensures, c.index.ensures, ← c.self.view_is) (gives _ _ (rw (← c.self.view_is) at c.requires))
