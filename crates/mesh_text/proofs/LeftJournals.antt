-- The journal that a plan leaves.
use Rattle.std.proofs.Common.{◌≡◌, ◌∙◌, ap, le_refl, length}
use Rattle.std.proofs.lemmas.List.{take_all}
use Rattle.model_jobs.specs.Jobs.{Job, initial_state, state_after}
use Rattle.mesh_text.specs.Recorded.{journal_of}
use Rattle.mesh_text.specs.Turns.{StandsBehind, book_of}
use Rattle.mesh_text.specs.declared.turns.Turns.{Turns}

-- behind the last line of a plan the journal is the one that the plan leaves
pub journal_is : (job : Job) (turns : Turns) → StandsBehind job (length job.plan) turns → (book_of turns).entries ≡ journal_of job
journal_is job turns stands =
    stands.at.entries ∙ ap (λ lines. (state_after job (initial_state job) lines).entries) (take_all (length job.plan) job.plan (le_refl (length job.plan)))
