-- The differences between a listing and what a text lists. This project's own choice.
use Rattle.std.specs.Prelude.{◌≡◌, ℕ, Bool, not, ◌&&◌, ◌||◌, if◌then◌else◌, nat_eq, List, [], ◌∷◌, ◌++◌, length, map, slice_get}
use Rattle.std.specs.List.{list_any}
use Rattle.explore_interleavings.specs.ExploreStates.{ExploreState, Setting}
use Rattle.explore_report.specs.CommandTexts.{commands_text}
use Rattle.explore_report.specs.EndTexts.{end_text, text_of_some}
use Rattle.explore_report.specs.OutcomeTexts.{told_text_at}
use Rattle.explore_report.specs.declared.listing.Listing.{Listing}
use Rattle.explore_report.specs.declared.outcomes.Outcome.{Outcome}
use Rattle.explore_verdict.specs.Answers.{answers_of}
use Rattle.explore_verdict.specs.Expected.{blocks_of}
use Rattle.explore_verdict.specs.TextSets.{distinct, is_in, missing_in}
use Rattle.explore_verdict.specs.declared.judging.Differences.{Differences}

-- whether there is no such thing
abbrev pub is_empty : {A : Type 0} → List A → Bool
is_empty xs = nat_eq (length xs) 0

-- ---- outcomes

-- the text of an outcome: the lines of its workers. With the line of its end behind them it is `whole_text`
abbrev pub short_text : List ExploreState → Outcome → List ℕ
short_text states outcome = told_text_at states outcome.place

abbrev pub whole_text : Setting → List ExploreState → Outcome → List ℕ
whole_text x states outcome = short_text states outcome ++ text_of_some (end_text x) (slice_get states outcome.place)

-- both texts of each outcome
abbrev pub outcome_texts : Setting → List ExploreState → List Outcome → List (List ℕ)
outcome_texts x states [] = []
outcome_texts x states (outcome ∷ outcomes) = short_text states outcome ∷ whole_text x states outcome ∷ outcome_texts x states outcomes

-- whether none of the texts is one of the outcome
abbrev pub is_unexpected : Setting → List ExploreState → List (List ℕ) → Outcome → Bool
is_unexpected x states texts outcome = not (is_in texts (short_text states outcome) || is_in texts (whole_text x states outcome))

-- which outcomes are unexpected. If the text lists no outcome, outcomes aren't compared
abbrev pub unexpected_in : Setting → List ExploreState → List Outcome → List (List ℕ) → List Bool
unexpected_in x states outcomes blocks = map (λ outcome. not (is_empty blocks) && is_unexpected x states (distinct blocks) outcome) outcomes

-- ---- answers

-- the answers that the listing has
abbrev pub listed_answers : Setting → List ExploreState → Listing → List (List ℕ)
listed_answers x states listing = answers_of (commands_text x states listing)

-- the answers of the listing that the text doesn't list. If the text lists none, answers aren't compared
abbrev pub unexpected_answers : List (List ℕ) → List (List ℕ) → List (List ℕ)
unexpected_answers expected listed = if is_empty expected then [] else missing_in (distinct expected) listed

-- ---- the verdict

-- these are the differences between the listing and what the text lists
pub record AreDifferences (x : Setting) (states : List ExploreState) (listing : Listing) (text : List ℕ) (differences : Differences) : Type 0 where
  pub missing_answers : differences.missing_answers.items ≡ missing_in (distinct (listed_answers x states listing)) (answers_of text)
  pub unexpected_answers : differences.unexpected_answers.items ≡ unexpected_answers (answers_of text) (listed_answers x states listing)
  pub missing : differences.missing.items ≡ missing_in (distinct (outcome_texts x states listing.outcomes.items)) (blocks_of text)
  pub unexpected : differences.unexpected.items ≡ unexpected_in x states listing.outcomes.items (blocks_of text)

-- whether an outcome is unexpected
abbrev pub is_any : List Bool → Bool
is_any flags = list_any (λ flag. flag) flags

-- whether the listing has what the text lists, and nothing else of its kind
abbrev pub is_as_expected : Setting → List ExploreState → Listing → List ℕ → Bool
is_as_expected x states listing text =
    is_empty (missing_in (distinct (listed_answers x states listing)) (answers_of text))
    && (is_empty (unexpected_answers (answers_of text) (listed_answers x states listing))
    && (is_empty (missing_in (distinct (outcome_texts x states listing.outcomes.items)) (blocks_of text))
    && not (is_any (unexpected_in x states listing.outcomes.items (blocks_of text)))))
