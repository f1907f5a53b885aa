-- The middle form of a legal history. It says what each cell by itself goes through, and what two objects require of
-- each other. `RunToForm` and `FormToRun` prove that an order of calls is a legal history exactly if it has this form.
use Rattle.std.proofs.Common.{◌≡◌, ◌≢◌, ℕ, ◌+◌, ◌<◌, ◌⊎◌, Bool, true, false, ◌&&◌, nat_eq, List, [], ◌∷◌, length, Option, Some}
use Rattle.std.specs.List.{filter}
use Rattle.model_history.specs.Recorded.{Recorded, many_cells, was_given}
use Rattle.model_memory.specs.Memory.{Object}
use Rattle.model_words.specs.declared.commands.Command.{Command}
use Rattle.model_words.specs.declared.commands.Command.TheVariants.{Free}
use Rattle.model_intervals.specs.Intervals.{Call}
use Rattle.model_intervals.specs.Objects.{Object as NewObject, IsFairNew, object_made}
use Rattle.model_intervals.specs.OverlappingCalls.{HasEffect, IsNew, cell_at}
use Rattle.model_intervals.proofs.Lists.{Every, Pairs}
use Rattle.model_intervals.proofs.CellStates.{CellState, Unmade, Live, Leads, state_of}

-- the object that the call made
abbrev pub made_by : Call → Option NewObject
made_by call = object_made call.entry.command call.entry.reply

-- the calls that name the cell, in their order
abbrev pub of_cell : ℕ → List Call → List Call
of_cell cell calls = filter (λ call. nat_eq (cell_at call) cell) calls

abbrev pub is_free : Command → Bool
is_free (Free cell) = true
is_free command = false

-- the call frees the cell's object
abbrev pub frees : ℕ → Call → Bool
frees cell call = is_free call.entry.command && nat_eq (cell_at call) cell

-- the call makes no object that meets the range
abbrev pub LeavesFree : ℕ → ℕ → Call → Type 0
LeavesFree address len call = (y : NewObject) → made_by call ≡ Some y → address < y.address + y.len → y.address < address + len → ⊥

-- no call makes an object that meets the range before some call frees the cell's object
abbrev pub GoesInTime : ℕ → ℕ → ℕ → List Call → Type 0
GoesInTime cell address len [] = Unit {0}
GoesInTime cell address len (call ∷ calls) = (frees cell call ≡ true) ⊎ (LeavesFree address len call × GoesInTime cell address len calls)

-- this holds of each object that one of the calls makes, for the calls behind it
abbrev pub AllGoInTime : List Call → Type 0
AllGoInTime [] = Unit {0}
AllGoInTime (call ∷ calls) = ((x : NewObject) → made_by call ≡ Some x → GoesInTime x.cell x.address x.len calls) × AllGoInTime calls

-- the serial of the call's object was not given before
abbrev pub IsFresh : List ℕ → Call → Type 0
IsFresh serials call = (x : NewObject) → made_by call ≡ Some x → was_given serials x.serial ≡ false

-- the objects of two calls have different serials
abbrev pub GiveApart : Call → Call → Type 0
GiveApart a b = (x y : NewObject) → made_by a ≡ Some x → made_by b ≡ Some y → x.serial ≢ y.serial

-- the middle form: the memory `r` can take these calls in this order
pub record IsLegalFrom (r : Recorded) (rest : List Call) : Type 0 where
  pub each : (c : ℕ) → (t : CellState) × Leads (state_of r.memory c) (of_cell c rest) t
  pub fair : Every (λ call. IsFairNew call.entry.command call.entry.reply) rest
  pub fresh : Every (IsFresh r.serials) rest
  pub once : Pairs GiveApart rest
  pub live : (c : ℕ) (o : Object) → state_of r.memory c ≡ Live o → GoesInTime c o.address (length o.bytes) rest
  pub clear : AllGoInTime rest

-- if both calls are a `new`, their cells differ
abbrev pub AreNewApart : Call → Call → Type 0
AreNewApart a b = IsNew a.entry.command → IsNew b.entry.command → cell_at a ≢ cell_at b

-- the premises, which a history meets: each call has an effect and a cell below the bound, and each `new` has an unused
-- cell
pub record IsReady (r : Recorded) (rest : List Call) : Type 0 where
  pub effects : Every (λ call. HasEffect call.entry.command call.entry.reply) rest
  pub within : Every (λ call. cell_at call < many_cells) rest
  pub unmade : Every (λ call. IsNew call.entry.command → state_of r.memory (cell_at call) ≡ Unmade) rest
  pub own : Pairs AreNewApart rest
