use Rattle.std.proofs.Common.{arith}
use Rattle.mesh_steps.proofs.Objects.{address_stray, held_is}
use Rattle.mesh_steps.proofs.heap.Heap.holder.Goals as goal

pub returns-then-found-clause-there : goal.returns-then-found-clause-there
returns-then-found-clause-there c = held_is _ _ _ c.object_at.ensures.sound c.in_ok-found.ensures.there (omega arith)

pub returns-in_err-found-clause-none : goal.returns-in_err-found-clause-none
returns-in_err-found-clause-none c = rw c.from_residual.ensures (address_stray c.args.self.now c.args.addr c.object_at.ensures.sound
    (λ serial r is within. c.in_err-found.ensures.found serial r is within))

pub returns-else-found-clause-none : goal.returns-else-found-clause-none
returns-else-found-clause-none c = grind (arith, address_stray)
