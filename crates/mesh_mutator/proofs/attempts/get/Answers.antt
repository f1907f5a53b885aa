use Rattle.std.proofs.Common.{Err, Ok, refl, sym}
use Rattle.mesh_mutator.proofs.CellAnswers.{get_empty, get_looked}
use Rattle.mesh_mutator.proofs.attempts.get.Goals as goal

pub returns-in-Ok : goal.returns-in-Ok
returns-in-Ok c =
    get_looked c.args.heap.now _ _ _ _ _ _ _ c.requires.rooted (sym c.in-Some.ensures) c.in-Ok.ensures.bytes (refl, refl)

pub returns-in-Err : goal.returns-in-Err
returns-in-Err c =
    get_looked c.args.heap.now _ _ _ _ _ _ _ c.requires.rooted (sym c.in-Some.ensures) c.in-Err.ensures.refused (refl, refl)

pub returns-in-None : goal.returns-in-None
returns-in-None c = get_empty c.args.heap.now c.args.roots.now c.args.cell c.args.off c.args.len (sym c.in-None.ensures)
