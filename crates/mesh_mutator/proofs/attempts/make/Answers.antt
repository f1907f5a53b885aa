use Rattle.std.proofs.Common.{refl, sym, subst}
use Rattle.mesh_mutator.specs.Book.{AreRooted}
use Rattle.mesh_steps.specs.Heap.{Heap}
use Rattle.mesh_mutator.proofs.CellAnswers.{made_performed, made_rooted, new_refused}
use Rattle.mesh_mutator.proofs.attempts.make.Goals as goal

pub returns-in-Ok-clause-performed : goal.returns-in-Ok-clause-performed
returns-in-Ok-clause-performed c = rw c.set.ensures.value (made_performed _ _ _ _ _ _ _ c.in-Ok.ensures.made)

pub returns-in-Ok-clause-rooted : goal.returns-in-Ok-clause-rooted
returns-in-Ok-clause-rooted c =
    rw c.set.ensures.value (made_rooted _ _ _ _ _ _ _ c.in-Ok.ensures.made c.requires.cells c.requires.rooted)

pub returns-in-Err-Refused-clause-performed : goal.returns-in-Err-Refused-clause-performed
returns-in-Err-Refused-clause-performed c =
    let fault = rw c.in-Err-Refused.field-0-is at c.in-Err-Refused.ensures.fault in
    new_refused c.args.heap.now c.new.new.self c.args.roots.now c.args.cell c.args.len c.args.word c.in-Err-Refused.refusal fault.0 fault.1

pub returns-in-Err-Refused-clause-rooted : goal.returns-in-Err-Refused-clause-rooted
returns-in-Err-Refused-clause-rooted c =
    subst (λ (h : Heap). AreRooted h c.args.roots.now) (sym (rw c.in-Err-Refused.field-0-is at c.in-Err-Refused.ensures.fault).1) c.requires.rooted

pub returns-in-Err-Memory-clause-performed : goal.returns-in-Err-Memory-clause-performed
returns-in-Err-Memory-clause-performed c =
    let fault = rw c.in-Err-Memory.field-0-is at c.in-Err-Memory.ensures.fault in
    (fault.0, fault.1, refl)

pub returns-in-Err-Memory-clause-rooted : goal.returns-in-Err-Memory-clause-rooted
returns-in-Err-Memory-clause-rooted c =
    subst (λ (h : Heap). AreRooted h c.args.roots.now) (sym (rw c.in-Err-Memory.field-0-is at c.in-Err-Memory.ensures.fault).1) c.requires.rooted
