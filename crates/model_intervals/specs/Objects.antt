-- The calls of one object by themselves, and which objects are live at once. This project's own choice.
use Rattle.std.specs.Prelude.{◌≡◌, ◌≢◌, ◌⊎◌, ℕ, ◌+◌, ◌<◌, ◌≤◌, Bool, true, false, not, ◌&&◌, if◌then◌else◌, nat_eq, nat_lt, List, [], ◌∷◌, Option, Some, None, length, option_and_then, replicate, slice_range}
use Rattle.std.specs.List.{All, filter}
use Rattle.std.specs.List.Sorted.{IsPermutation}
use Rattle.std.specs.Str.{bytes_eq}
use Rattle.model_history.specs.Recorded.{IsOwnRefusal, any_allocator}
use Rattle.model_memory.specs.Memory.{overwritten}
use Rattle.model_words.specs.declared.commands.Command.{Command}
use Rattle.model_words.specs.declared.commands.Command.TheVariants.{New, Put, Get, Addr}
use Rattle.model_words.specs.declared.commands.Reply.{Reply}
use Rattle.model_words.specs.declared.commands.Reply.TheVariants.{Object as Made, Done, Bytes, At, Refused}
use Rattle.model_intervals.specs.Intervals.{Call, RespectsTime}
use Rattle.model_intervals.specs.OverlappingCalls.{IsAt, IsFree, cell_at}

-- ---- the calls of one object

-- whether the range ends past the bytes
abbrev pub ends_past : List ℕ → ℕ → ℕ → Bool
ends_past bytes off len = nat_lt (length bytes) (off + len)

-- the bytes of an object at an address after an access to it, or none if the access would not answer as recorded
abbrev pub accessed : ℕ → Command → Reply → List ℕ → Option (List ℕ)
accessed address (Put cell off new) Done bytes = if ends_past bytes off (length new.items) then None else Some (overwritten bytes off new.items)
accessed address (Get cell off len) (Bytes told) bytes =
    if not (ends_past bytes off len) && bytes_eq told.items (slice_range bytes off (off + len)) then Some bytes else None
accessed address (Addr cell) (At told) bytes = if nat_eq told address then Some bytes else None
accessed address command reply bytes = None

-- the bytes of an object after a call that names it, or none if the call would not answer as recorded
abbrev pub effect_on : ℕ → List ℕ → Call → Option (List ℕ)
effect_on address bytes call = accessed address call.entry.command call.entry.reply bytes

-- the bytes of an object after calls in this order, or none if a call would not answer as recorded
abbrev pub bytes_behind : ℕ → List ℕ → List Call → Option (List ℕ)
bytes_behind address bytes [] = Some bytes
bytes_behind address bytes (call ∷ order) = option_and_then (λ next. bytes_behind address next order) (effect_on address bytes call)

-- whether a command reads or writes bytes of its cell's object, or returns the object's address
abbrev pub is_access : Command → Bool
is_access (Put cell off bytes) = true
is_access (Get cell off len) = true
is_access (Addr cell) = true
is_access command = false

-- the accesses to the object of a cell, in their order
abbrev pub accesses_of : ℕ → List Call → List Call
accesses_of cell calls = filter (λ call. is_access call.entry.command && nat_eq (cell_at call) cell) calls

-- an order of an object's accesses that respects time, and in which each access answers as recorded. At first the
-- object's bytes are zeros
pub record ExplainsAccesses (calls : List Call) (cell len address : ℕ) (order : List Call) : Type 0 where
  pub same : IsPermutation order (accesses_of cell calls)
  pub in_time : RespectsTime order
  pub last : List ℕ
  pub answers : bytes_behind address (replicate len 0) order ≡ Some last

-- ---- objects

-- an object that a `new` made: its cell, length, serial and address
pub record Object : Type 0 where
  pub cell : ℕ
  pub len : ℕ
  pub serial : ℕ
  pub address : ℕ

-- the object that a command with this answer made, if any
abbrev pub object_made : Command → Reply → Option Object
object_made (New cell len word) (Made serial address) = Some (record { cell = cell; len = len; serial = serial; address = address })
object_made command reply = None

-- the call at this place of the list made this object
abbrev pub IsMadeAt : List Call → ℕ → Call → Object → Type 0
IsMadeAt calls place call object = IsAt calls place call × (object_made call.entry.command call.entry.reply ≡ Some object)

-- the ranges of two objects overlap
abbrev pub Meet : Object → Object → Type 0
Meet a b = (a.address < b.address + b.len) × (b.address < a.address + a.len)

-- the object of a cell was freed by a call that began no later than this moment
pub record IsFreedBy (calls : List Call) (cell moment : ℕ) : Type 0 where
  pub place : ℕ
  pub free : Call
  pub there : IsAt calls place free
  pub frees : IsFree free.entry.command
  pub names : cell_at free ≡ cell
  pub begun : free.begin ≤ moment

-- a `new` made an object of 1 to 2^47 bytes, or was refused for a reason that fits its length. Of other commands this
-- says nothing
abbrev pub IsFairNew : Command → Reply → Type 0
IsFairNew (New cell len word) (Made serial address) = (1 ≤ len) × (len ≤ any_allocator.longest)
IsFairNew (New cell len word) (Refused refusal) = IsOwnRefusal any_allocator len refusal
IsFairNew command reply = Unit {0}

-- the calls are explained object by object: each `new` has a fair answer, no serial is given twice, and some order
-- explains each object's accesses. If the ranges of two objects overlap, the `free` of one begins no later than the
-- `new` of the other ends
pub record IsExplainedByObject (calls : List Call) : Type 0 where
  pub fair : All (λ call. IsFairNew call.entry.command call.entry.reply) calls
  pub serials_once : (i j : ℕ) (a b : Call) (x y : Object) → i ≢ j → IsMadeAt calls i a x → IsMadeAt calls j b y → x.serial ≢ y.serial
  pub apart : (i j : ℕ) (a b : Call) (x y : Object) → i ≢ j → IsMadeAt calls i a x → IsMadeAt calls j b y → Meet x y
      → IsFreedBy calls x.cell b.end ⊎ IsFreedBy calls y.cell a.end
  pub each : (i : ℕ) (call : Call) (x : Object) → IsMadeAt calls i call x → (order : List Call) × ExplainsAccesses calls x.cell x.len x.address order
