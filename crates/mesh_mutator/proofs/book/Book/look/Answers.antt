use Rattle.std.proofs.Common.{subst}
use Rattle.model_memory.specs.Plain.{IsLegal}
use Rattle.model_words.specs.declared.commands.Command.TheVariants.{Addr, Get, Peek}
use Rattle.mesh_mutator.specs.Book.{Book, IsLooked, memory_of_book}
use Rattle.mesh_mutator.proofs.Headlines.{could_be_added}
use Rattle.mesh_mutator.proofs.book.Book.look.Goals as goal

pub returns-in-Get-clause-looked : goal.returns-in-Get-clause-looked
returns-in-Get-clause-looked c =
    rw c.in-Get.is (subst (λ (b : Book). IsLooked b.heap b.cells (Get c.in-Get.cell c.in-Get.off c.in-Get.len) c.get.result) c.self.view_is c.get.ensures)

pub returns-in-Get-clause-entry : goal.returns-in-Get-clause-entry
returns-in-Get-clause-entry c =
    could_be_added c.args.self.now c.args.command.now c.get.result c.legal_histories.ensures.goes_on
    (subst (λ (b : Book). IsLegal b.entries (memory_of_book b)) c.self.view_is c.self.invariant.legal) c.requires
    (returns-in-Get-clause-looked c)

pub returns-in-Addr-clause-looked : goal.returns-in-Addr-clause-looked
returns-in-Addr-clause-looked c =
    rw c.in-Addr.is (subst (λ (b : Book). IsLooked b.heap b.cells (Addr c.in-Addr.cell) c.address.result) c.self.view_is c.address.ensures)

pub returns-in-Addr-clause-entry : goal.returns-in-Addr-clause-entry
returns-in-Addr-clause-entry c =
    could_be_added c.args.self.now c.args.command.now c.address.result c.legal_histories.ensures.goes_on
    (subst (λ (b : Book). IsLegal b.entries (memory_of_book b)) c.self.view_is c.self.invariant.legal) c.requires
    (returns-in-Addr-clause-looked c)

pub returns-in-Peek-clause-looked : goal.returns-in-Peek-clause-looked
returns-in-Peek-clause-looked c =
    rw c.in-Peek.is (subst (λ (b : Book). IsLooked b.heap b.cells (Peek c.in-Peek.addr) c.peek.result) c.self.view_is c.peek.ensures)

pub returns-in-Peek-clause-entry : goal.returns-in-Peek-clause-entry
returns-in-Peek-clause-entry c =
    could_be_added c.args.self.now c.args.command.now c.peek.result c.legal_histories.ensures.goes_on
    (subst (λ (b : Book). IsLegal b.entries (memory_of_book b)) c.self.view_is c.self.invariant.legal) c.requires
    (returns-in-Peek-clause-looked c)
