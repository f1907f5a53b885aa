-- Conditions on the outcomes of a job: whether they hold, and what a verdict says of them. This project's own choice.
use Rattle.std.specs.Prelude.{ℕ, ◌+◌, Bool, false, not, if◌then◌else◌, nat_eq, nat_lt, List, [], ◌∷◌, ◌++◌, Option, Some, None, codes, decimal, length, slice_get}
use Rattle.std.specs.List.{count_by, list_all}
use Rattle.std.specs.Option.{option_or}
use Rattle.model_jobs.specs.Texts.{ended, number_field}
use Rattle.explore_interleavings.specs.ExploreStates.{ExploreState}
use Rattle.explore_report.specs.OutcomeTexts.{printed_order}
use Rattle.explore_report.specs.declared.outcomes.Outcome.{Outcome}
use Rattle.explore_verdict.specs.Pieces.{Piece, plain, shown}
use Rattle.explore_verdict.specs.Patterns.{Wanted, is_match, told_in}
use Rattle.explore_verdict.specs.Unseen.{unseen_in, unseen_text}
use Rattle.explore_verdict.specs.declared.condition.Condition.{Condition}
use Rattle.explore_verdict.specs.declared.condition.Demand.{Demand}
use Rattle.explore_verdict.specs.declared.condition.Demand.TheVariants.{Never, Always, Exists}
use Rattle.explore_verdict.specs.declared.conditions.Example.{Example}

-- ---- which conditions hold

-- whether an outcome matches the pattern
abbrev pub matches : List ExploreState → Wanted → Outcome → Bool
matches states wanted outcome = is_match wanted (told_in (slice_get states outcome.place))

-- the number of outcomes that match the pattern
abbrev pub matching : List ExploreState → List Outcome → Wanted → ℕ
matching states outcomes wanted = count_by (matches states wanted) outcomes

-- whether so many matching outcomes, of so many in all, are as demanded
abbrev pub is_demanded : Demand → ℕ → ℕ → Bool
is_demanded Never matching all = nat_eq matching 0
is_demanded Always matching all = nat_eq matching all
is_demanded Exists matching all = nat_lt 0 matching

-- whether the condition holds of the outcomes
abbrev pub holds : List ExploreState → List Outcome → Condition → Bool
holds states outcomes condition = is_demanded condition.demand (matching states outcomes condition.pattern) (length outcomes)

-- whether each of the conditions holds
abbrev pub all_hold : List ExploreState → List Outcome → List Condition → Bool
all_hold states outcomes conditions = list_all (holds states outcomes) conditions

-- ---- the lines of conditions

-- the word of a demand
abbrev pub demand_word : Demand → List ℕ
demand_word Never = codes "never"
demand_word Always = codes "always"
demand_word Exists = codes "exists"

-- how many outcomes match: `never K: M of N outcomes`
abbrev pub count_text : Condition → ℕ → ℕ → List ℕ
count_text condition matching all =
    demand_word condition.demand ++ number_field condition.number ++ codes ": " ++ decimal matching ++ codes " of " ++ decimal all ++ codes " outcomes"

-- the line of a condition: how many outcomes match, and the first of its answers that no outcome has
abbrev pub condition_line : List ExploreState → List Outcome → Condition → List ℕ
condition_line states outcomes condition =
    ended (count_text condition (matching states outcomes condition.pattern) (length outcomes)
    ++ unseen_text (unseen_in states outcomes condition.pattern.clauses))

-- ---- the outcome that shows that a condition doesn't hold

-- whether an outcome that matches, or that doesn't, shows that the demand isn't met
abbrev pub is_example_if : Demand → Bool → Bool
is_example_if Never is = is
is_example_if Always is = not is
is_example_if Exists is = false

-- whether an outcome shows that the condition doesn't hold
abbrev pub is_example : List ExploreState → Condition → Outcome → Bool
is_example states condition outcome = is_example_if condition.demand (matches states condition.pattern outcome)

-- this outcome with this number in the listing, if it shows that the condition doesn't hold
abbrev pub example_at : List ExploreState → Condition → ℕ → Option Outcome → Option Example
example_at states condition number None = None
example_at states condition number (Some outcome) =
    if is_example states condition outcome then Some (record { number = number; outcome = outcome }) else None

-- the first of the outcomes at these places that shows that the condition doesn't hold. The first place has this number
-- in the listing
abbrev pub example_from : List ExploreState → List Outcome → Condition → ℕ → List ℕ → Option Example
example_from states outcomes condition number [] = None
example_from states outcomes condition number (place ∷ order) =
    option_or (example_at states condition number (slice_get outcomes place)) (example_from states outcomes condition (number + 1) order)

-- the example, as the listing has it
abbrev pub example_pieces : Option Example → List Piece
example_pieces None = []
example_pieces (Some example) = shown example.number example.outcome ∷ []

-- what a verdict says of a condition: its line and, if it doesn't hold, the first outcome of the listing that shows
-- this
abbrev pub condition_pieces : List ExploreState → List Outcome → Condition → List Piece
condition_pieces states outcomes condition =
    plain (condition_line states outcomes condition)
    ∷ (if holds states outcomes condition then [] else example_pieces (example_from states outcomes condition 0 (printed_order states outcomes)))

-- what a verdict says of conditions
abbrev pub conditions_pieces : List ExploreState → List Outcome → List Condition → List Piece
conditions_pieces states outcomes [] = []
conditions_pieces states outcomes (condition ∷ conditions) = condition_pieces states outcomes condition ++ conditions_pieces states outcomes conditions
