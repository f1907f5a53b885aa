-- Why no outcome of a job can match a pattern. This project's own choice.
use Rattle.std.specs.Prelude.{◌≡◌, ℕ, ◌-◌, Bool, ◌||◌, if◌then◌else◌, nat_le, nat_lt, List, [], ◌∷◌, Option, Some, None, length, option_map, slice_get, slice_index}
use Rattle.std.specs.List.{list_all}
use Rattle.std.specs.Option.{option_or}
use Rattle.explore_interleavings.specs.ExploreStates.{ExploreState, Setting, script_of}
use Rattle.explore_verdict.specs.Beginnings.{is_begun, is_spelt}
use Rattle.explore_verdict.specs.Patterns.{Clause, Wanted, inner}
use Rattle.explore_verdict.specs.declared.condition.Condition.{Condition}
use Rattle.explore_verdict.specs.declared.mismatches.Mismatch.{Mismatch}
use Rattle.explore_verdict.specs.declared.mismatches.Unmatchable.{Unmatchable}
use Rattle.explore_verdict.specs.declared.mismatches.Mismatch.TheVariants.{NoWorker, NoAnswer, TooManyAnswers}

-- whether a reply can match the piece: an answer, or the beginning of one and a star, between two spaces
abbrev pub is_answer : List ℕ → Bool
is_answer piece = is_spelt (inner piece) || is_begun (inner piece)

-- the number of commands that are left for a worker in a state
abbrev pub commands_left : Setting → ExploreState → ℕ → ℕ
commands_left x s worker = length (script_of x worker) - slice_index s.places worker

-- why no outcome can match the clause, if this is the initial state: there is no such worker, some piece is no answer,
-- or there are more pieces than commands
abbrev pub clause_mismatch : Setting → ExploreState → Clause → Option Mismatch
clause_mismatch x s clause =
    if nat_le (length x.job.scripts) clause.worker then Some NoWorker
    else (if list_all is_answer clause.pieces then (if nat_lt (commands_left x s clause.worker) (length clause.pieces) then Some TooManyAnswers else None)
    else Some NoAnswer)

-- why no outcome can match all of these clauses
abbrev pub mismatch_in : Setting → ExploreState → List Clause → Option Mismatch
mismatch_in x s [] = None
mismatch_in x s (clause ∷ clauses) = option_or (clause_mismatch x s clause) (mismatch_in x s clauses)

-- why no outcome can match the pattern
abbrev pub mismatch_of : Setting → ExploreState → Wanted → Option Mismatch
mismatch_of x s wanted = mismatch_in x s wanted.clauses

-- the condition, and why no outcome can match its pattern
abbrev pub unmatchable : Condition → Mismatch → Unmatchable
unmatchable condition why = record { demand = condition.demand; number = condition.number; mismatch = why }

-- the first condition whose pattern no outcome can match
abbrev pub first_mismatch : Setting → ExploreState → List Condition → Option Unmatchable
first_mismatch x s [] = None
first_mismatch x s (condition ∷ conditions) = option_or (option_map (unmatchable condition) (mismatch_of x s condition.pattern)) (first_mismatch x s conditions)

-- the condition is the first whose pattern no outcome can match. The first of the states is the initial one
pub record IsUnmatchable (x : Setting) (states : List ExploreState) (conditions : List Condition) (unmatchable : Unmatchable) : Type 0 where
  pub start : ExploreState
  pub first : slice_get states 0 ≡ Some start
  pub found : first_mismatch x start conditions ≡ Some unmatchable

-- outcomes can match the pattern of each condition
abbrev pub AreMatchable : Setting → List ExploreState → List Condition → Type 0
AreMatchable x states conditions = (start : ExploreState) → slice_get states 0 ≡ Some start → first_mismatch x start conditions ≡ None
