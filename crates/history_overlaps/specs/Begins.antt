-- What is to be done at the end of a call that begins, and what keeps it from beginning.
use Rattle.std.specs.Prelude.{◌≡◌, ◌⊎◌, ℕ, ◌%◌, if◌then◌else◌, nat_eq, List, [], ◌∷◌, Option, Some, None}
use Rattle.model_words.specs.declared.commands.Command.TheVariants.{New}
use Rattle.model_words.specs.declared.commands.Reply.{Reply}
use Rattle.model_words.specs.declared.commands.Reply.TheVariants.{Refused as RefusedReply}
use Rattle.model_intervals.specs.Objects.{object_made}
use Rattle.history_overlaps.specs.Queues.{object_of}
use Rattle.history_overlaps.specs.declared.misuses.Misuse.TheVariants.{NotAfterNew, NotBeforeFree}
use Rattle.history_overlaps.specs.declared.misuses.NotBegun.{NotBegun}
use Rattle.history_overlaps.specs.declared.misuses.NotBegun.TheVariants.{Misused}
use Rattle.history_overlaps.specs.declared.pending.Pending.{Pending}
use Rattle.history_overlaps.specs.declared.pending.Pending.TheVariants.{Made, Refused, Free, Access}

-- `pending` is what is to be done at the end of the `new` with this number, of `len` bytes in this cell, with this
-- answer
abbrev pub IsNewPending : ℕ → ℕ → ℕ → Reply → Pending → Type 0
IsNewPending number cell len reply (Made x) = (x.number ≡ number) × ((word : ℕ) → object_made (New cell len word) reply ≡ Some (object_of x))
IsNewPending number cell len reply (Refused l refusal) = (l ≡ len) × (reply ≡ RefusedReply refusal)
IsNewPending number cell len reply Free = ⊥
IsNewPending number cell len reply (Access c) = ⊥

-- the rule that a call with this number breaks on an object that isn't live, if `freed` has the freed objects
abbrev pub IsStray : (ℕ → Type 0) → ℕ → ℕ → NotBegun → Type 0
IsStray freed number cell not_begun = (freed cell × (not_begun ≡ Misused (record { number = number; misuse = NotBeforeFree })))
    ⊎ ((freed cell → ⊥) × (not_begun ≡ Misused (record { number = number; misuse = NotAfterNew })))

-- the number of the first waiting access to the object of a cell
abbrev pub first_access : List (ℕ × Pending) → ℕ → Option ℕ
first_access [] cell = None
first_access ((key, Access c) ∷ entries) cell = if nat_eq c cell then Some (key % 4294967296) else first_access entries cell
first_access ((key, pending) ∷ entries) cell = first_access entries cell

-- an access to the object of the cell waits, and this is its number; or no such access waits
abbrev pub IsFirstAccess : (ℕ → Option Pending) → ℕ → Option ℕ → Type 0
IsFirstAccess waits cell None = (key : ℕ) → waits key ≡ Some (Access cell) → ⊥
IsFirstAccess waits cell (Some number) = (key : ℕ) × (waits key ≡ Some (Access cell)) × (key % 4294967296 ≡ number)
