-- The answers of patterns that occur in no outcome, and what a verdict says of them. This project's own choice.
use Rattle.std.specs.Prelude.{ℕ, ◌+◌, Bool, false, if◌then◌else◌, List, [], ◌∷◌, ◌++◌, Option, Some, None, codes, decimal, slice_get, slice_index_or}
use Rattle.std.specs.List.{list_any}
use Rattle.std.specs.Option.{option_or}
use Rattle.model_words.specs.declared.commands.Reply.{Reply}
use Rattle.explore_interleavings.specs.ExploreStates.{ExploreState}
use Rattle.explore_report.specs.declared.outcomes.Outcome.{Outcome}
use Rattle.explore_verdict.specs.Patterns.{Clause, is_met, told_in}
use Rattle.explore_verdict.specs.declared.unseen.Unseen.{Unseen}

-- whether there is a reply, and it matches the piece
abbrev pub is_met_by : List ℕ → Option Reply → Bool
is_met_by piece None = false
is_met_by piece (Some reply) = is_met piece reply

-- whether a worker's reply at a place, counted from 0, matches the piece
abbrev pub is_met_at : List ℕ → ℕ → ℕ → List (List Reply) → Bool
is_met_at piece worker place told = is_met_by piece (slice_get (slice_index_or told worker []) place)

-- whether it does in some outcome
abbrev pub is_seen : List ExploreState → List Outcome → List ℕ → ℕ → ℕ → Bool
is_seen states outcomes piece worker place = list_any (λ outcome. is_met_at piece worker place (told_in (slice_get states outcome.place))) outcomes

-- the first of these pieces that no outcome has. The first piece is at this place
abbrev pub unseen_from : List ExploreState → List Outcome → ℕ → ℕ → List (List ℕ) → Option Unseen
unseen_from states outcomes worker place [] = None
unseen_from states outcomes worker place (piece ∷ pieces) =
    if is_seen states outcomes piece worker place then unseen_from states outcomes worker (place + 1) pieces
    else Some (record { worker = worker; answer = place + 1 })

-- the first answer of these clauses that no outcome has
abbrev pub unseen_in : List ExploreState → List Outcome → List Clause → Option Unseen
unseen_in states outcomes [] = None
unseen_in states outcomes (clause ∷ clauses) = option_or (unseen_from states outcomes clause.worker 0 clause.pieces) (unseen_in states outcomes clauses)

-- what the line of a condition says of such an answer, if there is one
abbrev pub unseen_text : Option Unseen → List ℕ
unseen_text None = []
unseen_text (Some unseen) = codes "; no outcome has answer " ++ decimal unseen.answer ++ codes " of worker " ++ decimal unseen.worker
