-- The memory of a recorded history, stored in trees.
use Rattle.std.specs.Prelude.{◌≡◌, ◌≢◌, ◌↔◌, ℕ, ◌<◌, ◌≤◌, ◌+◌, ◌^◌, true, List, Option, Some, None, Ok, Err, IsOk, length, slice_get}
use Rattle.std.specs.Ordering.{nat_cmp}
use Rattle.std.specs.BTreeMap.{get}
use Rattle.model_memory.specs.Memory.{Memory, Object, has_address, next_serial, object_of, overwritten, root_of, with_object}
use Rattle.model_memory.specs.Plain.{plain}
use Rattle.model_history.specs.Recorded.{Recorded, many_cells, was_given}
use Rattle.model_words.specs.declared.commands.Command.{Command}
use Rattle.model_words.specs.declared.commands.Reply.TheVariants.{Done}
use Rattle.model_words.specs.declared.refusals.Refusal.{Refusal}
use Rattle.history_number_set.specs.Ranges.{Has}
use Rattle.history_in_order.specs.Cells.{CellTable, IsFreed, number_at}
use Rattle.history_in_order.specs.Objects.{LiveObject, object_in, serial_in}
use Rattle.history_in_order.specs.declared.cells.Held.{Held}
use Rattle.history_in_order.specs.declared.cells.Held.TheVariants.{Number, Freed}
use Rattle.history_in_order.specs.declared.faults.CommandError.{CommandError}
use Rattle.history_in_order.specs.declared.faults.CommandError.TheVariants.{Refused, Memory as OfMemory}
use Rattle.history_in_order.specs.declared.memory.Tracked.{Tracked}
use Rattle.history_in_order.specs.declared.reasons.AddressRange.{AddressRange}
use Rattle.history_in_order.specs.declared.reasons.Overlap.{Overlap}

-- these represent what was recorded: the objects by number, their serials, their numbers by address, what cells hold,
-- all serials that were given, and the number of objects made. Each live object has at least 1 byte and ends below
-- 2^64, and no two have an address in common
pub record StandsFor (objects : ℕ → Option Object) (serials_at starts : ℕ → Option ℕ) (table : CellTable) (set : List (ℕ × ℕ)) (made : ℕ) (r : Recorded) : Type 0 where
  pub count : next_serial r.memory ≡ made
  pub object : (n : ℕ) → object_of r.memory n ≡ objects n
  pub cells : length r.memory.roots ≡ many_cells
  pub root : (cell n : ℕ) → number_at table cell ≡ Some n → root_of r.memory cell ≡ Some n
  pub freed : (cell : ℕ) → IsFreed table cell → (n : ℕ) × (n < made) × (root_of r.memory cell ≡ Some n) × (objects n ≡ None)
  pub empty : (cell : ℕ) → number_at table cell ≡ None → (IsFreed table cell → ⊥) → root_of r.memory cell ≡ None
  pub serials : (serial : ℕ) → Has set serial ↔ (was_given r.serials serial ≡ true)
  pub each : length r.serials ≡ made
  pub given : (n serial : ℕ) → serials_at n ≡ Some serial → slice_get r.serials n ≡ Some serial
  pub started : (n : ℕ) (o : Object) → objects n ≡ Some o → starts o.address ≡ Some n
  pub starts_of : (address n : ℕ) → starts address ≡ Some n → (o : Object) × (objects n ≡ Some o) × (o.address ≡ address)
  pub filled : (n : ℕ) (o : Object) → objects n ≡ Some o → 1 ≤ length o.bytes
  pub ends : (n : ℕ) (o : Object) → objects n ≡ Some o → o.address + length o.bytes < 2 ^ 64
  pub apart : (n k : ℕ) (o p : Object) → objects n ≡ Some o → objects k ≡ Some p → (x : ℕ) → has_address o x ≡ true → has_address p x ≡ true → n ≡ k

-- the live objects by number
abbrev pub objects_of : Tracked → ℕ → Option Object
objects_of m n = object_in (get nat_cmp m.objects n)

-- the serials of the live objects by number
abbrev pub serials_of : Tracked → ℕ → Option ℕ
serials_of m n = serial_in (get nat_cmp m.objects n)

-- the trees represent what was recorded
abbrev pub Stands : Tracked → Recorded → Type 0
Stands m r = StandsFor (objects_of m) (serials_of m) (get nat_cmp m.starts) m.cells m.serials m.made r

-- what a cell holds is the number of no live object
abbrev pub IsGone : Tracked → Held → Type 0
IsGone m (Number n) = get nat_cmp m.objects n ≡ None
IsGone m Freed = Unit {0}

-- `g` returns `v` at `k`, and the value of `f` at each other number
abbrev pub IsSetAt : {X : Type 0} → (ℕ → Option X) → (ℕ → Option X) → ℕ → Option X → Type 0
IsSetAt f g k v = (g k ≡ v) × ((q : ℕ) → q ≢ k → g q ≡ f q)

-- the number of the object at the greatest of the addresses up to this one at which an object starts, or `None` if none
-- starts there
abbrev pub IsNearest : (ℕ → Option ℕ) → ℕ → Option ℕ → Type 0
IsNearest starts address None = (q : ℕ) → q ≤ address → starts q ≡ None
IsNearest starts address (Some n) =
    (b : ℕ) × (b ≤ address) × (starts b ≡ Some n) × ((q k : ℕ) → q ≤ address → starts q ≡ Some k → q ≤ b)

-- what was recorded, with another memory
abbrev pub with_memory : Recorded → Memory → Recorded
with_memory r m = record { memory = m; serials = r.serials }

-- the reference memory does the command, and the trees represent the memory after it
abbrev pub IsDone : Tracked → Tracked → Command → Type 0
IsDone old new command =
    (r : Recorded) → Stands old r → (m : Memory) × (plain r.memory 0 command ≡ Ok (Done, m)) × Stands new (with_memory r m)

-- the reference memory refuses the command with this refusal, and nothing changes
abbrev pub IsRefusedAs : Tracked → Tracked → Command → Refusal → Type 0
IsRefusedAs old new command refusal = (new ≡ old) × ((r : Recorded) → Stands old r → plain r.memory 0 command ≡ Err refusal)

-- the reference memory refuses the command, and nothing changes; if an allocation failed, nothing is claimed
abbrev pub IsRefused : Tracked → Tracked → Command → CommandError → Type 0
IsRefused old new command (Refused refusal) = IsRefusedAs old new command refusal
IsRefused old new command OfMemory = Unit {0}

-- the reference memory doesn't refuse the command
abbrev pub IsPossible : Tracked → Command → Type 0
IsPossible old command = (r : Recorded) → Stands old r → IsOk (plain r.memory 0 command)

-- the range of `len` addresses from `address` on
abbrev pub addresses_from : ℕ → ℕ → AddressRange
addresses_from address len = record { from = address; to = address + len }

-- a live object has an address in the range: `overlap` has the serial and the addresses of this object, and the
-- addresses of the range
pub record IsOverlapped (r : Recorded) (address len : ℕ) (overlap : Overlap) : Type 0 where
  pub number : ℕ
  pub object : Object
  pub is_live : object_of r.memory number ≡ Some object
  pub is_given : slice_get r.serials number ≡ Some overlap.serial
  pub is_other : overlap.other ≡ addresses_from object.address (length object.bytes)
  pub is_range : overlap.range ≡ addresses_from address len
  pub place : ℕ
  pub from : address ≤ place
  pub to : place < address + len
  pub has : has_address object place ≡ true

-- the live object with this number has room for these bytes from the offset on, and the command does nothing but store
-- them there
abbrev pub IsCopied : Tracked → Command → ℕ → ℕ → List ℕ → Type 0
IsCopied m command n off bytes =
    (o : LiveObject) × (get nat_cmp m.objects n ≡ Some o) × (off + length bytes ≤ length o.object.bytes)
    × ((r : Recorded) → Stands m r → plain r.memory 0 command ≡ Ok (Done, with_object r.memory n (Some (record o.object { bytes = overwritten o.object.bytes off bytes }))))
