-- What a mesher counts, and how its counts belong together.
use Rattle.std.specs.Prelude.{◌≡◌, ℕ, zero, suc, ◌+◌, ◌≤◌, List, length, min, sum_by}
use Rattle.model_search.specs.Search.{Found}
use Rattle.model_words.specs.declared.answers.StepDone.{StepDone}
use Rattle.model_words.specs.declared.commands.StepKind.{StepKind}
use Rattle.model_words.specs.declared.commands.StepKind.TheVariants.{Protect, Copy, Remap, Unprotect, Release}
use Rattle.mesh_lock.specs.CallBudgets.{IsUsedUp}
use Rattle.mesh_shared.specs.declared.calls.MesherCalls.{MesherCalls}
use Rattle.mesh_shared.specs.declared.counts.MeshCounts.{MeshCounts}

-- a number as it is counted: a count stays at 2 ^ 64 - 1
abbrev pub saturated : ℕ → ℕ
saturated n = min 18446744073709551615 n

abbrev pub no_counts : MeshCounts
no_counts = record { searches = 0; pairs = 0; begun = 0; refused = 0; ended = 0; steps_refused = 0; pages = 0 }

-- the number of pairs in the results of a search
abbrev pub pairs_in : List Found → ℕ
pairs_in found = sum_by (λ one. length one.pairs) found

-- after a search that found `n` pairs
abbrev pub with_search : MeshCounts → ℕ → MeshCounts
with_search counts n = record counts { searches = saturated (suc counts.searches); pairs = saturated (counts.pairs + n) }

-- after a `begin` that the book answered, and after one that it refused
abbrev pub with_begun : MeshCounts → MeshCounts
with_begun counts = record counts { begun = saturated (suc counts.begun) }

abbrev pub with_refused : MeshCounts → MeshCounts
with_refused counts = record counts { refused = saturated (suc counts.refused) }

-- the number of pages that a step of this kind returns to the arena
abbrev pub released_by : StepKind → ℕ
released_by Protect = 0
released_by Copy = 0
released_by Remap = 0
released_by Unprotect = 0
released_by Release = 1

-- the number of meshes that end with a step after which this many steps are left
abbrev pub ended_by : ℕ → ℕ
ended_by zero = 1
ended_by (suc left) = 0

-- after a step that the book answered, and after one that it refused
abbrev pub with_step : MeshCounts → StepDone → MeshCounts
with_step counts done = record counts { ended = saturated (counts.ended + ended_by done.left); pages = saturated (counts.pages + released_by done.kind) }

abbrev pub with_step_refused : MeshCounts → MeshCounts
with_step_refused counts = record counts { steps_refused = saturated (suc counts.steps_refused) }

-- the number of pairs that were begun or refused
abbrev pub tried_pairs : MeshCounts → ℕ
tried_pairs counts = saturated (counts.begun + counts.refused)

-- the number of meshes that made their last step, or of which a step was refused
abbrev pub closed_meshes : MeshCounts → ℕ
closed_meshes counts = saturated (counts.ended + counts.steps_refused)

-- up to `n` pairs were tried, each one unless the calls were used up, and their meshes were closed
pub record ArePairsTried (n : ℕ) (old new : MesherCalls) : Type 0 where
  pub most : new.budget.most ≡ old.budget.most
  pub over : IsUsedUp old.budget → IsUsedUp new.budget
  pub searches : new.counts.searches ≡ old.counts.searches
  pub pairs : new.counts.pairs ≡ old.counts.pairs
  pub tried : tried_pairs new.counts ≤ saturated (tried_pairs old.counts + n)
  pub all_tried : (IsUsedUp new.budget → ⊥) → tried_pairs new.counts ≡ saturated (tried_pairs old.counts + n)
  pub closed : closed_meshes old.counts ≤ old.counts.begun → closed_meshes new.counts ≤ new.counts.begun
  pub all_closed : (IsUsedUp new.budget → ⊥) → closed_meshes old.counts ≡ old.counts.begun → closed_meshes new.counts ≡ new.counts.begun

-- the calls of a mesher after a search that found `n` pairs
abbrev pub after_search : MesherCalls → ℕ → MesherCalls
after_search calls n = record calls { counts = with_search calls.counts n }
