-- The calls that have begun and not ended, in the order of their ends.
use Rattle.std.specs.Prelude.{◌≡◌, ℕ, ◌+◌, ◌*◌, ◌<◌, ◌≤◌, true, List, Option, Some, None, length}
use Rattle.model_history.specs.Recorded.{many_cells}
use Rattle.model_words.specs.declared.commands.Command.TheVariants.{New}
use Rattle.model_words.specs.declared.commands.Reply.TheVariants.{Refused as RefusedReply}
use Rattle.model_intervals.specs.Intervals.{Call}
use Rattle.model_intervals.specs.Objects.{Object, is_access, object_made}
use Rattle.model_intervals.specs.OverlappingCalls.{HasEffect, IsAt, IsFree, cell_at}
use Rattle.history_overlaps.specs.declared.objects.NewObject.{NewObject}
use Rattle.history_overlaps.specs.declared.pending.Pending.{Pending}
use Rattle.history_overlaps.specs.declared.pending.Pending.TheVariants.{Made, Refused, Free, Access}

-- an object of the code, as an object of the definitions
abbrev pub object_of : NewObject → Object
object_of x = record { cell = x.cell; len = x.len; serial = x.serial; address = x.address }

-- the key of a call in the order of ends: first by its end, then by its place
abbrev pub key_of : Call → ℕ → ℕ
key_of call place = call.end * 4294967296 + place

-- the call, which is at this place, waits for its end
abbrev pub IsWaiting : (ℕ → Option Pending) → Call → ℕ → Type 0
IsWaiting waits call place = (pending : Pending) × (waits (key_of call place) ≡ Some pending)

-- the call at a place has ended: nothing waits under its key
abbrev pub HasEnded : List Call → (ℕ → Option Pending) → ℕ → Type 0
HasEnded calls waits place = (call : Call) × IsAt calls place call × (waits (key_of call place) ≡ None)

-- `pending` is what is to be done at the end of this call, which is at this place
abbrev pub Suits : Call → ℕ → Pending → Type 0
Suits call place (Made x) = (object_made call.entry.command call.entry.reply ≡ Some (object_of x)) × (x.number ≡ place)
Suits call place (Refused len refusal) = (cell word : ℕ) × (call.entry.command ≡ New cell len word) × (call.entry.reply ≡ RefusedReply refusal)
Suits call place Free = IsFree call.entry.command
Suits call place (Access cell) = (is_access call.entry.command ≡ true) × (cell_at call ≡ cell)

-- some call waits under this key, and `pending` is what is to be done at its end
pub record WaitsAt (calls : List Call) (key : ℕ) (pending : Pending) : Type 0 where
  pub place : ℕ
  pub call : Call
  pub there : IsAt calls place call
  pub is_key : key ≡ key_of call place
  pub suits : Suits call place pending

-- each call that has ended is before each waiting call in the order of ends
abbrev pub EndInOrder : List Call → (ℕ → Option Pending) → Type 0
EndInOrder calls waits = (i j : ℕ) (a b : Call) → HasEnded calls waits i → IsAt calls i a → IsAt calls j b → IsWaiting waits b j → key_of a i < key_of b j

-- only calls that have begun wait. A waiting call ends no earlier than any call began, and is behind the ended
-- calls in the order of ends. There are at most 2^32 calls
pub record Queue (calls : List Call) (waits : ℕ → Option Pending) : Type 0 where
  pub keyed : (key : ℕ) (pending : Pending) → waits key ≡ Some pending → WaitsAt calls key pending
  pub reach : (i j : ℕ) (a b : Call) → IsAt calls i a → IsAt calls j b → IsWaiting waits a i → b.begin ≤ a.end
  pub order : EndInOrder calls waits
  pub few : length calls ≤ 4294967296

-- the call is valid and may begin next: no call so far began later, the ended calls ended before the new call begins,
-- and the waiting calls end no earlier than it begins
pub record MayBegin (calls : List Call) (waits : ℕ → Option Pending) (call : Call) : Type 0 where
  pub takes_time : call.begin ≤ call.end
  pub has_effect : HasEffect call.entry.command call.entry.reply
  pub has_cell : cell_at call < many_cells
  pub last : (i : ℕ) (a : Call) → IsAt calls i a → a.begin ≤ call.begin
  pub behind : (i : ℕ) (a : Call) → HasEnded calls waits i → IsAt calls i a → a.end < call.begin
  pub within : (i : ℕ) (a : Call) → IsAt calls i a → IsWaiting waits a i → call.begin ≤ a.end
  pub few : length calls < 4294967296
