use Rattle.std.proofs.Common.{subst, sym, arith}
use Rattle.mesh_mutator.proofs.AttemptEnds.{IsBook_answered, adds_entry, attempt_answered, attempt_unrecorded, not_full, unrecorded_same}
use Rattle.mesh_mutator.specs.Book.{Book, Cells, IsBook}
use Rattle.mesh_mutator.specs.Journal.{Journal}
use Rattle.mesh_steps.specs.Heap.{Heap}
use Rattle.mesh_mutator.proofs.book.Book.act.Goals as goal

-- the book of these parts
abbrev book_of : Heap → Cells → Journal → Book
book_of heap cells journal = record { heap = heap; cells = cells; entries = journal.entries; room = journal.room }

pub invariant_of-self : goal.invariant_of-self
invariant_of-self c =
    let short = c.is_full.ensures.free c.if-is_full.false in
    let done = c.perform-attempt.ensures.performed in
    rw c.push.ensures (
    IsBook_answered _ _ _ _ _ _ c.answered_is_step.ensures c.legal_histories.ensures.goes_on c.sound.ensures c.self.invariant short
    (rw c.in-Done.is at done) c.perform-attempt.ensures.rooted c.perform-attempt.ensures.cells c.perform-attempt.ensures.serials
    )

pub returns-in-Done : goal.returns-in-Done
returns-in-Done c =
    let short = c.is_full.ensures.free c.if-is_full.false in
    let done = c.perform-attempt.ensures.performed in
    let attempt = attempt_answered _ _ _ _ _ _ _ short c.in-Done.is done in
    rw (← c.self.view_is, c.push.ensures) (record {
      attempt = attempt;
      entry = adds_entry _ _ _ _ _ attempt;
      full = (
        λ full. absurd (not_full (book_of c.self.inside.heap c.self.inside.roots c.self.inside.journal) _ _ _ _ done full),
        λ past. absurd (omega (arith, short, past)),
      );
    })

pub invariant_of-self-in_default : goal.invariant_of-self-in_default
invariant_of-self-in_default c =
    subst (λ (b : Book). IsBook b) (sym (unrecorded_same _ _ _ _ _ c.in_default.not-Done c.perform-attempt.ensures.performed)) c.self.invariant

pub returns-in_default : goal.returns-in_default
returns-in_default c =
    let short = c.is_full.ensures.free c.if-is_full.false in
    let done = c.perform-attempt.ensures.performed in
    let attempt = attempt_unrecorded _ _ _ _ _ _ short c.in_default.not-Done done in
    rw (← c.self.view_is) (record {
      attempt = attempt;
      entry = adds_entry _ _ _ _ _ attempt;
      full = (
        λ full. absurd (not_full (book_of c.self.inside.heap c.self.inside.roots c.self.inside.journal) _ _ _ _ done full),
        λ past. absurd (omega (arith, short, past)),
      );
    })
