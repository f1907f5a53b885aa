-- The command that is attempted at a line of a plan.
use Rattle.std.proofs.Common.{◌≡◌, ℕ, zero, suc, List, [], ◌∷◌, drop, slice_get, slice_index, slice_index_or, ap, refl, sym, ◌∙◌}
use Rattle.model_jobs.specs.Jobs.{Job, State}
use Rattle.mesh_mutator.specs.Book.{Book}
use Rattle.text_job.specs.Plan.{line_of}
use Rattle.text_job.specs.declared.plan.PlanLine.{PlanLine}
use Rattle.text_job.specs.declared.plan.PlanLine.TheVariants.{Run}
use Rattle.mesh_text.specs.Echo.{attempt_field, next_command}
use Rattle.mesh_text.specs.Turns.{IsAt}

-- the item at a place is the first of those that are left there
first_left : {A : Type 0} (xs : List A) (n : ℕ) → slice_get xs n ≡ slice_get (drop n xs) 0
first_left [] zero = refl
first_left [] (suc n) = refl
first_left (x ∷ xs) zero = refl
first_left (x ∷ xs) (suc n) = first_left xs n

-- the command at a worker's place is the one that it attempts next
pub command_is_next : (job : Job) (state : State) (book : Book) (places : List ℕ) (worker : ℕ) → IsAt job state book places
    → slice_get (slice_index_or job.scripts worker []) (slice_index places worker) ≡ next_command state worker
command_is_next job state book places worker at =
    first_left (slice_index_or job.scripts worker []) (slice_index places worker) ∙ ap (λ commands. slice_get commands 0) (sym (at.scripts worker))

-- at a line of the mesher no command is attempted
pub no_attempt : (state : State) (line : PlanLine) → ((worker : ℕ) → line ≡ Run worker → ⊥) → attempt_field state (line_of line) ≡ []
no_attempt state (Run worker) other = absurd (other worker refl)
no_attempt state line other = refl
