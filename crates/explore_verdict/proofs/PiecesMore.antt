-- Pieces of a verdict, one item after another.
use Rattle.std.proofs.Common.{◌≡◌, ◌∙◌, ◌++◌, ◌∷◌, [], ◌+◌, ◌-◌, ◌<◌, ◌≤◌, ◌&&◌, ℕ, Bool, true, false, List, append-nil, append_assoc, arith, drop, if◌then◌else◌, length, refl, slice_get, slice_index_or, sym, take}
use Rattle.std.proofs.lemmas.List.{take_all}
use Rattle.explore_interleavings.specs.ExploreStates.{ExploreState}
use Rattle.explore_report.specs.declared.outcomes.Outcome.{Outcome}
use Rattle.std.specs.Prelude.{codes, decimal}
use Rattle.explore_verdict.specs.Conditions.{all_hold, condition_pieces, conditions_pieces, holds}
use Rattle.explore_verdict.specs.Pieces.{Piece}
use Rattle.explore_verdict.specs.Judged.{is_empty}
use Rattle.explore_verdict.specs.Runs.{counted, shown_at, unexpected_pieces}
use Rattle.explore_verdict.specs.declared.condition.Condition.{Condition}

-- what is behind the first of some items
behind_first : {X : Type 0} (first : X) (behind : List X) → take (length (first ∷ behind) - 1) behind ≡ behind
behind_first first behind =
    let long : length (first ∷ behind) - 1 ≡ length behind = omega arith in
    rw long (take_all (length behind) behind (omega arith))

and_assoc : (a b c : Bool) → ((a && b) && c) ≡ (a && (b && c))
and_assoc true b c = refl
and_assoc false b c = refl

module _ (states : List ExploreState) (outcomes : List Outcome) where
  -- one more condition is judged
  pub hold_more : (hold h all : Bool) (rest : List Condition) (condition none : Condition) → 1 ≤ length rest → (hold && all_hold states outcomes rest) ≡ all
      → condition ≡ slice_index_or rest 0 none → h ≡ holds states outcomes condition
      → ((hold && h) && all_hold states outcomes (take (length rest - 1) (drop 1 rest))) ≡ all
  hold_more hold h all [] item none some before first is = absurd (omega (arith, some))
  hold_more hold h all (condition ∷ rest) item none some before first is =
      rw (behind_first condition rest, is, first) (and_assoc hold (holds states outcomes condition) (all_hold states outcomes rest) ∙ before)

  -- and its pieces are added
  pub conditions_more : (pieces all : List Piece) (rest : List Condition) (condition none : Condition) → 1 ≤ length rest → condition ≡ slice_index_or rest 0 none
      → pieces ++ conditions_pieces states outcomes rest ≡ all
      → (pieces ++ condition_pieces states outcomes condition) ++ conditions_pieces states outcomes (take (length rest - 1) (drop 1 rest)) ≡ all
  conditions_more pieces all [] item none some at before = absurd (omega (arith, some))
  conditions_more pieces all (condition ∷ rest) item none some at before =
      rw (behind_first condition rest, at) (append_assoc pieces (condition_pieces states outcomes condition) (conditions_pieces states outcomes rest) ∙ before)

  -- no condition is left
  pub conditions_end : (pieces all : List Piece) (rest : List Condition) → length rest < 1 → pieces ++ conditions_pieces states outcomes rest ≡ all → pieces ≡ all
  conditions_end pieces all [] none before = sym (append-nil pieces) ∙ before
  conditions_end pieces all (condition ∷ rest) some before = absurd (omega (arith, some))

-- fewer places are left
pub few_more : (n total : ℕ) (rest : List ℕ) → 1 ≤ length rest → n + length rest ≤ total → (n + 1) + length (take (length rest - 1) (drop 1 rest)) ≤ total
few_more n total [] some few = absurd (omega (arith, some))
few_more n total (place ∷ rest) some few = rw (behind_first place rest) (omega (arith, few))

-- no place is left
pub unexpected_end : (outcomes : List Outcome) (flags : List Bool) (number : ℕ) (pieces all : List Piece) (rest : List ℕ) → length rest < 1
    → pieces ++ unexpected_pieces outcomes flags number rest ≡ all → pieces ≡ all
unexpected_end outcomes flags number pieces all [] none before = sym (append-nil pieces) ∙ before
unexpected_end outcomes flags number pieces all (place ∷ rest) some before = absurd (omega (arith, some))

-- the pieces of one more place are added
pub unexpected_more : (outcomes : List Outcome) (flags : List Bool) (number : ℕ) (pieces all : List Piece) (rest : List ℕ) (place none : ℕ) → 1 ≤ length rest
    → place ≡ slice_index_or rest 0 none → pieces ++ unexpected_pieces outcomes flags number rest ≡ all
    → (pieces ++ (if slice_index_or flags place false then shown_at number (slice_get outcomes place) else []))
    ++ unexpected_pieces outcomes flags (number + 1) (take (length rest - 1) (drop 1 rest)) ≡ all
unexpected_more outcomes flags number pieces all [] item none some at before = absurd (omega (arith, some))
unexpected_more outcomes flags number pieces all (place ∷ rest) item none some at before =
    rw (behind_first place rest, at)
    (append_assoc pieces (if slice_index_or flags place false then shown_at number (slice_get outcomes place) else []) (unexpected_pieces outcomes flags (number + 1) rest)
    ∙ before)

-- what is counted
pub counted_answers : (blocks : List (List ℕ)) (outcomes answers : ℕ) → is_empty blocks ≡ true → counted blocks outcomes answers ≡ decimal answers ++ codes " answers"
counted_answers blocks outcomes answers is = rw is refl

pub counted_outcomes : (blocks : List (List ℕ)) (outcomes answers : ℕ) → is_empty blocks ≡ false → counted blocks outcomes answers ≡ decimal outcomes ++ codes " outcomes"
counted_outcomes blocks outcomes answers is = rw is refl
