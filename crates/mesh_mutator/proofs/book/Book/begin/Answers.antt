use Rattle.mesh_mutator.proofs.KeptBooks.{book_answered, kept_book}
use Rattle.mesh_mutator.proofs.book.Book.begin.Goals as goal

pub invariant_of-self : goal.invariant_of-self
invariant_of-self c = kept_book _ _ _ _ _ c.begin.ensures.kept c.self.invariant

pub returns : goal.returns
returns c = rw (← c.self.view_is) (book_answered _ _ _ _ _ _ c.begin.result _ c.begin.ensures)
