use Rattle.mesh_mutator.proofs.CellAnswers.{addr_done, addr_refused}
use Rattle.mesh_mutator.proofs.attempts.address.Goals as goal

pub returns-in-Ok : goal.returns-in-Ok
returns-in-Ok c = addr_done c.args.heap.now c.args.roots.now c.args.cell c.in-Ok.object c.in-Ok.ensures.named

pub returns-in-Err : goal.returns-in-Err
returns-in-Err c = addr_refused c.args.heap.now c.args.roots.now c.args.cell c.in-Err.refusal c.in-Err.ensures.refused
