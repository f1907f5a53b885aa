use Rattle.mesh_mutator.proofs.AttemptEnds.{IsTied_roots}
use Rattle.mesh_mutator.proofs.Headlines.{bytes_apart, objects_at_addresses}
use Rattle.mesh_mutator.specs.Book.{memory_in}
use Rattle.mesh_mutator.proofs.book.Book.headline.Goals as goal

pub returns-clause-legal : goal.returns-clause-legal
returns-clause-legal c = rw (← c.self.view_is) (memory_in c.self.inside.heap c.self.inside.roots, c.self.invariant.legal)

pub returns-clause-ends : goal.returns-clause-ends
returns-clause-ends c = rw (← c.self.view_is) (λ end legal.
    c.legal_histories.ensures.one_end c.self.inside.journal.entries end (memory_in c.self.inside.heap c.self.inside.roots) legal c.self.invariant.legal)

pub returns-clause-addresses : goal.returns-clause-addresses
returns-clause-addresses c = rw (← c.self.view_is) (objects_at_addresses c.self.inside.journal.entries _ c.histories_keep_addresses.ensures.kept c.self.invariant.legal)

pub returns-clause-apart : goal.returns-clause-apart
returns-clause-apart c = rw (← c.self.view_is) (bytes_apart c.self.inside.heap c.always.ensures.objects c.always.ensures.places)

pub returns-clause-tied : goal.returns-clause-tied
returns-clause-tied c = rw (← c.self.view_is) (IsTied_roots c.self.inside.heap c.self.inside.roots c.sound.ensures.tied)
