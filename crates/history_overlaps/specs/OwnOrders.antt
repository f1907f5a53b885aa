-- The accesses to each object of a history, and orders that explain them.
use Rattle.std.specs.Prelude.{◌≡◌, ◌≢◌, ℕ, ◌<◌, ◌≤◌, List, [], ◌∷◌, ◌++◌, Option, Some, None, map}
use Rattle.std.specs.Global.{Vec}
use Rattle.std.specs.List.Sorted.{IsPermutation}
use Rattle.model_intervals.specs.Intervals.{Call}
use Rattle.model_intervals.specs.Objects.{ExplainsAccesses, Object}
use Rattle.model_intervals.specs.OverlappingCalls.{IsAt}
use Rattle.history_overlaps.specs.Accesses.{placed_from}
use Rattle.history_overlaps.specs.Orders.{at_places}
use Rattle.history_overlaps.specs.declared.accesses.Made.{Made}

-- no call begins before an earlier one
abbrev pub BeginInOrder : List Call → Type 0
BeginInOrder calls = (i j : ℕ) (a b : Call) → i < j → IsAt calls i a → IsAt calls j b → a.begin ≤ b.begin

-- an object of the definitions, as an object of the code
abbrev pub made_of : Object → Made
made_of x = record { cell = x.cell; len = x.len; address = x.address }

-- the numbers of the accesses to the object of a cell, in the order of the calls
abbrev pub numbers_of : ℕ → List Call → List ℕ
numbers_of cell calls = map (λ placed. placed.place) (placed_from 0 cell calls)

-- the numbers in a list that may be missing
abbrev pub listed : Option (Vec ℕ) → List ℕ
listed None = []
listed (Some numbers) = numbers.items

-- for each cell these are the numbers of the accesses to its object
abbrev pub AreGrouped : List Call → (ℕ → Option (Vec ℕ)) → Type 0
AreGrouped calls accesses = (cell : ℕ) → listed (accesses cell) ≡ numbers_of cell calls

-- the number was added at the end of the cell's list, and no other list has changed
abbrev pub IsAdded : (ℕ → Option (Vec ℕ)) → (ℕ → Option (Vec ℕ)) → ℕ → ℕ → Type 0
IsAdded old new cell number = (listed (new cell) ≡ listed (old cell) ++ number ∷ []) × ((q : ℕ) → q ≢ cell → new q ≡ old q)

-- an order of the accesses to an object, by the numbers of the calls, that explains them
pub record IsOwnOrder (calls : List Call) (made : Made) (order : List ℕ) : Type 0 where
  pub same : IsPermutation order (numbers_of made.cell calls)
  pub explains : ExplainsAccesses calls made.cell made.len made.address (at_places calls order)
