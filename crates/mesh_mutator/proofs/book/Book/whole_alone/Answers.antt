use Rattle.mesh_mutator.proofs.KeptBooks.{book_answered, kept_book}
use Rattle.mesh_mutator.proofs.book.Book.whole_alone.Goals as goal

pub invariant_of-self : goal.invariant_of-self
invariant_of-self c = kept_book _ _ _ _ _ c.whole_alone.ensures.kept c.self.invariant

pub returns : goal.returns
returns c = rw (← c.self.view_is) (book_answered _ _ _ _ _ _ c.whole_alone.result _ c.whole_alone.ensures)
