-- What cells hold.
use Rattle.std.specs.Prelude.{◌≡◌, ◌≢◌, ◌↔◌, ◌⊎◌, ℕ, List, Option, Some, None, refl}
use Rattle.std.specs.Coded.{Coded, code_by, coded×, coded_list, coded_ℕ}
use Rattle.std.specs.Ordering.{nat_cmp}
use Rattle.std.specs.BTreeMap.{is_at}
use Rattle.std.specs.Map.{lookup}
use Rattle.history_number_set.specs.Ranges.{Has}
use Rattle.history_in_order.specs.declared.cells.Held.{Held}
use Rattle.history_in_order.specs.declared.cells.Held.TheVariants.{Number, Freed}

-- the cells with the numbers that they hold, and, as ranges, the cells whose object is no longer live, without the
-- object's number
pub record CellTable : Type 0 where
  pub numbers : List (ℕ × ℕ)
  pub freed : List (ℕ × ℕ)

-- a cell table is stored as the pair of its lists
abbrev pub cells_code : Coded CellTable
cells_code =
    code_by (List (ℕ × ℕ) × List (ℕ × ℕ)) (coded× (coded_list (coded× coded_ℕ coded_ℕ)) (coded_list (coded× coded_ℕ coded_ℕ))) (λ t. (t.numbers, t.freed))
    (λ p. record { numbers = p.0; freed = p.1 }) (λ _. refl)

-- the number that is stored for a cell, if there is one
abbrev pub number_at : CellTable → ℕ → Option ℕ
number_at t cell = lookup (is_at (nat_cmp cell)) t.numbers

-- the cell holds the number of an object that is no longer live; this number isn't stored
abbrev pub IsFreed : CellTable → ℕ → Type 0
IsFreed t cell = Has t.freed cell

-- no cell is in both lists of the table
abbrev pub AreEither : CellTable → Type 0
AreEither t = (cell : ℕ) → IsFreed t cell → number_at t cell ≡ None

-- what the cell holds, or `None` if nothing was ever stored in it
abbrev pub IsHeld : CellTable → ℕ → Option Held → Type 0
IsHeld t cell None = (number_at t cell ≡ None) × (IsFreed t cell → ⊥)
IsHeld t cell (Some (Number n)) = number_at t cell ≡ Some n
IsHeld t cell (Some Freed) = IsFreed t cell

-- nothing was ever stored in a cell
pub record IsNew (t : CellTable) : Type 0 where
  pub numbers : (cell : ℕ) → number_at t cell ≡ None
  pub freed : (cell : ℕ) → IsFreed t cell → ⊥

-- the cell holds this number now, and no other cell changes
pub record IsPointed (old new : CellTable) (cell n : ℕ) : Type 0 where
  pub here : number_at new cell ≡ Some n
  pub others : (q : ℕ) → q ≢ cell → number_at new q ≡ number_at old q
  pub freed : (q : ℕ) → IsFreed new q ↔ (IsFreed old q × (q ≢ cell))

-- the object of the cell is no longer live, so the cell's number isn't stored now; no other cell changes
pub record IsFreedAt (old new : CellTable) (cell : ℕ) : Type 0 where
  pub here : number_at new cell ≡ None
  pub others : (q : ℕ) → q ≢ cell → number_at new q ≡ number_at old q
  pub freed : (q : ℕ) → IsFreed new q ↔ ((q ≡ cell) ⊎ IsFreed old q)
