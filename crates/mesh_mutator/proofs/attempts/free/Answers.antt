use Rattle.std.proofs.Common.{sym, subst}
use Rattle.mesh_mutator.proofs.CellAnswers.{free_empty, free_performed, free_refused, freed_at_keeps, rooted_kept}
use Rattle.mesh_mutator.specs.Book.{AreRooted}
use Rattle.mesh_steps.specs.Heap.{Heap, plain_of}
use Rattle.mesh_mutator.proofs.attempts.free.Goals as goal

pub returns-in-Ok-clause-performed : goal.returns-in-Ok-clause-performed
returns-in-Ok-clause-performed c = free_performed _ _ _ _ _ c.requires (sym c.in-Some.ensures) c.in-Ok.ensures.freed

pub returns-in-Ok-clause-rooted : goal.returns-in-Ok-clause-rooted
returns-in-Ok-clause-rooted c =
    rooted_kept c.args.heap.now c.free.new.self _ c.in-Ok.ensures.freed.serial (freed_at_keeps _ _ _ c.in-Ok.ensures.freed.memory) c.requires

pub returns-in-Err-clause-performed : goal.returns-in-Err-clause-performed
returns-in-Err-clause-performed c =
    free_refused _ _ _ _ _ _ c.requires (sym c.in-Some.ensures) c.in-Err.ensures.refused.0 c.in-Err.ensures.refused.1

pub returns-in-Err-clause-rooted : goal.returns-in-Err-clause-rooted
returns-in-Err-clause-rooted c = subst (λ (h : Heap). AreRooted h c.args.roots.now) (sym c.in-Err.ensures.refused.1) c.requires

pub returns-in-None-clause-performed : goal.returns-in-None-clause-performed
returns-in-None-clause-performed c = free_empty c.args.heap.now c.args.roots.now c.args.cell (sym c.in-None.ensures)
