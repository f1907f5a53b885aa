use Rattle.std.proofs.Common.{Err, Ok, refl}
use Rattle.mesh_mutator.proofs.CellAnswers.{peek_looked}
use Rattle.mesh_mutator.proofs.attempts.peek.Goals as goal

pub returns-in-Ok : goal.returns-in-Ok
returns-in-Ok c = peek_looked c.args.heap.now c.args.roots.now c.args.addr (Ok c.in-Ok.byte) _ c.in-Ok.ensures.byte (refl, refl)

pub returns-in-Err : goal.returns-in-Err
returns-in-Err c = peek_looked c.args.heap.now c.args.roots.now c.args.addr (Err c.in-Err.refusal) _ c.in-Err.ensures.refused (refl, refl)
