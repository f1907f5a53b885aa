-- Calls of an object with the moments of their begins and ends, and the orders of effects that explain them.
use Rattle.std.specs.Prelude.{◌≡◌, ℕ, ◌<◌, List, [], ◌∷◌, Option, Some, option_and_then}
use Rattle.std.specs.List.{AllPairs}
use Rattle.std.specs.List.Sorted.{IsPermutation}

-- a call of an object: its number, when it began and when it ended, and what it does
pub record Timed (C : Type 0) : Type 0 where
  pub number : ℕ
  pub begin : ℕ
  pub end : ℕ
  pub call : C

-- the state after calls in this order, or none if a call would not answer as recorded
abbrev pub state_behind : {S C : Type 0} → (S → C → Option S) → S → List (Timed C) → Option S
state_behind effect state [] = Some state
state_behind effect state (timed ∷ order) = option_and_then (λ next. state_behind effect next order) (effect state timed.call)

-- if call A ended before call B began, A isn't behind B in the order
abbrev pub RespectsTime : {C : Type 0} → List (Timed C) → Type 0
RespectsTime order = AllPairs (λ front back. back.end < front.begin → ⊥) order

-- an order of effects that explains calls: it has exactly these calls, each once, it respects time, and each call
-- answers as recorded
pub record ExplainsTimed {S C : Type 0} (effect : S → C → Option S) (start : S) (calls order : List (Timed C)) : Type 0 where
  pub same : IsPermutation order calls
  pub in_time : RespectsTime order
  pub last : S
  pub answers : state_behind effect start order ≡ Some last
