-- What each cell holds.
use Rattle.std.specs.Prelude.{ℕ, nat_eq, List, Option, Some, None, slice_get}
use Rattle.std.specs.Map.{lookup}
use Rattle.savings_replay.specs.declared.cells.Held.{Held}

-- what a contract sees of `Cells`: what the first cells hold, and what other cells hold
pub record Cells : Type 0 where
  pub near : List (Option Held)
  pub far : List (ℕ × Held)

-- what a cell holds, by what the array has at the cell's place: an entry, or else what is found among the others
abbrev pub held_by : Option (Option Held) → Option Held → Option Held
held_by (Some (Some held)) other = Some held
held_by (Some None) other = other
held_by None other = other

-- what a cell holds, if it isn't empty
abbrev pub held_in : Cells → ℕ → Option Held
held_in cells cell = held_by (slice_get cells.near cell) (lookup (nat_eq cell) cells.far)
