-- The live objects and the cells of the code.
use Rattle.std.specs.Prelude.{◌≡◌, ℕ, ◌<◌, Bool, true, false, if◌then◌else◌, is_some, Option, Some, None}
use Rattle.std.specs.Option.{option_map}
use Rattle.savings_replay.specs.Cells.{Cells, held_in}
use Rattle.savings_replay.specs.Followed.{with_at}
use Rattle.savings_replay.specs.LiveObjects.{LiveObjects, at, found}
use Rattle.savings_replay.specs.declared.cells.Held.{Held}
use Rattle.savings_replay.specs.declared.objects.Object.{Object}

-- what a contract sees of `Objects`: what the cells hold, and the live objects
pub record Objects : Type 0 where
  pub cells : Cells
  pub live : LiveObjects

-- an object that a cell holds has a number that was used, and it is live if it is at its place
pub record AreRight (cells : Cells) (live : LiveObjects) : Type 0 where
  pub places : (cell : ℕ) (held : Held) → held_in cells cell ≡ Some held → at held.place held.number live.list ≡ found held.number live.list
  pub below : (cell : ℕ) (held : Held) → held_in cells cell ≡ Some held → held.number < live.next

-- the number of the object last stored in a cell, if there is one
abbrev pub cell_of : Objects → ℕ → Option ℕ
cell_of objects cell = option_map (λ held. held.number) (held_in objects.cells cell)

-- the live object with this number, if there is one
abbrev pub entry_of : Objects → ℕ → Option Object
entry_of objects number = found number objects.live.list

-- the number, if it is that of a live object
abbrev pub live_number : Objects → Option ℕ → Option ℕ
live_number objects None = None
live_number objects (Some number) = if is_some (entry_of objects number) then Some number else None

-- the number of the live object that a cell holds, if there is one
abbrev pub number_in : Objects → ℕ → Option ℕ
number_in objects cell = live_number objects (cell_of objects cell)

-- the cell holds the object with this number now, or there was no object and nothing changed
abbrev pub IsAliased : Objects → Objects → ℕ → Bool → Option ℕ → Type 0
IsAliased old new to true (Some number) = ((c : ℕ) → cell_of new c ≡ with_at to (Some number) (cell_of old) c) × (new.live ≡ old.live)
IsAliased old new to false None = new ≡ old
IsAliased old new to _ _ = ⊥

-- the live object that the cell held was removed, and the cell is empty now
pub record IsTakenOut (old new : Objects) (cell number : ℕ) (object : Object) : Type 0 where
  pub held : cell_of old cell ≡ Some number
  pub object_is : entry_of old number ≡ Some object
  pub cells : (c : ℕ) → cell_of new c ≡ with_at cell None (cell_of old) c
  pub live : (n : ℕ) → entry_of new n ≡ with_at number None (entry_of old) n
