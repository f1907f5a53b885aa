use Rattle.mesh_mutator.proofs.book.Book.always.Goals as goal

pub returns-clause-objects : goal.returns-clause-objects
returns-clause-objects c = rw (← c.self.view_is) c.always.ensures.objects
