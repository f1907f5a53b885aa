use Rattle.std.proofs.Common.{◌≡◌, ℕ, zero, suc, refl, replicate, rules, slice_index}
use Rattle.std.proofs.lemmas.Result.{err_from_is_err_and}
use Rattle.mesh_text.proofs.turns.Turns.open.Goals as goal

-- each place is 0
at_beginning : (n worker : ℕ) → slice_index (replicate n 0) worker ≡ 0
at_beginning zero worker = refl
at_beginning (suc n) zero = refl
at_beginning (suc n) (suc worker) = at_beginning n worker

pub returns-in_err-next-clause-workers : goal.returns-in_err-next-clause-workers
returns-in_err-next-clause-workers c = rw (err_from_is_err_and c.from_residual.result c.from_residual.ensures.1).1 tt

pub returns-in_err-next-clause-initial_state : goal.returns-in_err-next-clause-initial_state
returns-in_err-next-clause-initial_state c = rw (err_from_is_err_and c.from_residual.result c.from_residual.ensures.1).1 tt

pub returns-in_err-next-clause-stands : goal.returns-in_err-next-clause-stands
returns-in_err-next-clause-stands c = rw (err_from_is_err_and c.from_residual.result c.from_residual.ensures.1).1 tt

pub returns-in_err-book-clause-workers : goal.returns-in_err-book-clause-workers
returns-in_err-book-clause-workers c = rw (err_from_is_err_and c.from_residual-in_err-book.result c.from_residual-in_err-book.ensures.1).1 tt

pub returns-in_err-book-clause-initial_state : goal.returns-in_err-book-clause-initial_state
returns-in_err-book-clause-initial_state c = rw (err_from_is_err_and c.from_residual-in_err-book.result c.from_residual-in_err-book.ensures.1).1 tt

pub returns-in_err-book-clause-stands : goal.returns-in_err-book-clause-stands
returns-in_err-book-clause-stands c = rw (err_from_is_err_and c.from_residual-in_err-book.result c.from_residual-in_err-book.ensures.1).1 tt

pub returns-clause-workers : goal.returns-clause-workers
returns-clause-workers c = search rules

pub returns-clause-initial_state : goal.returns-clause-initial_state
returns-clause-initial_state c =
    let fresh = c.in_ok-next.ensures.items_if_clones_equal (λ y is. is) in
    record {
      memory = c.in_ok-book.ensures.memory;
      table = search rules;
      entries = c.in_ok-book.ensures.entries;
      room = search rules;
      pages = search rules;
      workers = refl;
      scripts = λ worker. rw (fresh, at_beginning c.count.result worker) refl;
    }

pub returns-clause-stands : goal.returns-clause-stands
returns-clause-stands c = record { workers = returns-clause-workers c; at = returns-clause-initial_state c }
