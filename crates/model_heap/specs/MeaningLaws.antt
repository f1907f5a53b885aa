-- What a heap means when its objects are read, written, freed and made.
use Rattle.std.specs.Prelude.{◌≡◌, ◌≢◌, ℕ, ◌+◌, ◌<◌, ◌≤◌, ◌⊎◌, true, false, List, Option, Some, None, Ok, length, map, slice_get, slice_index, slice_range}
use Rattle.std.specs.List.{range_with_len}
use Rattle.std.specs.Option.{option_map}
use Rattle.model_memory.specs.Memory.{Memory, Object, are_apart, has_address, holder_of, next_serial, object_of, with_object, with_new}
use Rattle.model_heap.specs.Places.{Place, Record, Target, byte_of, meaning, object_at, records_of, AreBelow, IsIn, record_in, record_with}
use Rattle.model_memory.specs.Plain.{stored}
use Rattle.model_heap.specs.Sound.{IsFilled, IsSound, IsTied}
use Rattle.model_heap.specs.Table.{Group, Placed, Slot, Table, changed_at, group_of, group_without, place_new, without_object, emptied_at}

-- the memory that a heap means has the heap's next serial
abbrev pub MeaningHasNext : Type 0
MeaningHasNext = (next : ℕ) (records : List Record) (targets : ℕ → Target) (bytes : Place → ℕ) (roots : List (Option ℕ))
    → next_serial (meaning next records targets bytes roots) ≡ next

-- if all records have serials below the next one, the object of a serial is the object of the serial's record, or none
-- if there is no record
abbrev pub MeaningHasObjects : Type 0
MeaningHasObjects = (next : ℕ) (records : List Record) (targets : ℕ → Target) (bytes : Place → ℕ) (roots : List (Option ℕ)) (serial : ℕ)
    → AreBelow next records
    → object_of (meaning next records targets bytes roots) serial ≡ option_map (object_at targets bytes) (record_with serial records)

-- if each serial has the same record before and after, and no byte of a record changes, the heap means the same memory
abbrev pub SameBytesSameMeaning : Type 0
SameBytesSameMeaning = (next : ℕ) (records records' : List Record) (targets targets' : ℕ → Target) (bytes bytes' : Place → ℕ) (roots : List (Option ℕ))
    → ((serial : ℕ) → record_with serial records' ≡ record_with serial records)
    → ((serial x : ℕ) (r : Record) → record_with serial records ≡ Some r → IsIn r x → byte_of targets' bytes' x ≡ byte_of targets bytes x)
    → meaning next records' targets' bytes' roots ≡ meaning next records targets bytes roots

-- if bytes are written at the places of a part of one object, and no other byte of a live object changes, the heap
-- means its memory before with these bytes stored in that object
abbrev pub StoreChangesMeaning : Type 0
StoreChangesMeaning = (next : ℕ) (records : List Record) (targets : ℕ → Target) (bytes bytes' : Place → ℕ) (roots : List (Option ℕ)) (r : Record)
    (off : ℕ) (new : List ℕ) → r.serial < next → record_with r.serial records ≡ Some r → off + length new ≤ r.len
    → ((k : ℕ) → k < length new → byte_of targets bytes' (r.address + off + k) ≡ slice_index new k)
    → ((x : ℕ) → IsIn r x → (x < r.address + off) ⊎ (r.address + off + length new ≤ x) → byte_of targets bytes' x ≡ byte_of targets bytes x)
    → ((serial x : ℕ) (q : Record) → record_with serial records ≡ Some q → serial ≢ r.serial → IsIn q x
    → byte_of targets bytes' x ≡ byte_of targets bytes x)
    → meaning next records targets bytes' roots
    ≡ stored (meaning next records targets bytes roots) (record { serial = r.serial; object = object_at targets bytes r }) off new

-- if the object of a serial below the next one is removed from the table, the heap means its memory before without that
-- object
abbrev pub FreeChangesMeaning : Type 0
FreeChangesMeaning = (next : ℕ) (t : Table) (targets : ℕ → Target) (bytes : Place → ℕ) (roots : List (Option ℕ)) (serial : ℕ) → serial < next
    → meaning next (records_of (without_object t serial)) targets bytes roots
    ≡ with_object (meaning next (records_of t) targets bytes roots) serial None

-- if an object of zeros is placed in a sound table and no byte of a live object changes, the heap means its memory
-- before with that object added. All serials in the table must be below the next one
abbrev pub NewChangesMeaning : Type 0
NewChangesMeaning = (next : ℕ) (t : Table) (targets targets' : ℕ → Target) (bytes bytes' : Place → ℕ) (roots : List (Option ℕ)) (len word : ℕ)
    (placed : Placed) → IsSound t → AreBelow next (records_of t) → place_new t len word next ≡ Ok placed
    → ((k : ℕ) → k < len → byte_of targets' bytes' (placed.address + k) ≡ 0)
    → ((serial x : ℕ) (r : Record) → record_with serial (records_of t) ≡ Some r → IsIn r x → byte_of targets' bytes' x ≡ byte_of targets bytes x)
    → meaning (next + 1) (records_of placed.table) targets' bytes' roots
    ≡ with_new (meaning next (records_of t) targets bytes roots) len placed.address

-- the bytes of a part of an object are the bytes at the places of that part's addresses
abbrev pub ReadGivesBytes : Type 0
ReadGivesBytes = (targets : ℕ → Target) (bytes : Place → ℕ) (r : Record) (off len : ℕ) → off + len ≤ r.len
    → slice_range (object_at targets bytes r).bytes off (off + len) ≡ map (byte_of targets bytes) (range_with_len (r.address + off) len)

-- byte `k` of an object is the byte at the place of the object's address plus `k`
abbrev pub ByteIsAtItsPlace : Type 0
ByteIsAtItsPlace = (targets : ℕ → Target) (bytes : Place → ℕ) (r : Record) (k : ℕ) → k < r.len
    → slice_index (object_at targets bytes r).bytes k ≡ byte_of targets bytes (r.address + k)

-- if a memory is tied to a sound table, two different live objects have no address in common
abbrev pub LiveObjectsAreApart : Type 0
LiveObjectsAreApart = (m : Memory) (t : Table) (i j : ℕ) (x y : Object) → IsSound t → IsTied m t → object_of m i ≡ Some x → object_of m j ≡ Some y
    → i ≢ j → are_apart x y

-- if a memory is tied to a sound table and a live object has an address, `holder_of` returns the object's serial for
-- this address
abbrev pub HolderIsOne : Type 0
HolderIsOne = (m : Memory) (t : Table) (serial address : ℕ) (object : Object) → IsSound t → IsTied m t → object_of m serial ≡ Some object
    → has_address object address ≡ true → holder_of m address ≡ Some serial

-- if no live object has an address, `holder_of` returns `None` for this address
abbrev pub NoneIsHolder : Type 0
NoneIsHolder = (m : Memory) (address : ℕ)
    → ((serial : ℕ) (object : Object) → object_of m serial ≡ Some object → has_address object address ≡ false) → holder_of m address ≡ None

-- if a memory is tied to a sound table, each object is in only one slot: to empty that slot is to remove the object
-- from the table
abbrev pub SlotIsTheOnlyOne : Type 0
SlotIsTheOnlyOne = (m : Memory) (t : Table) (n k : ℕ) (group : Group) (slot : Slot) → IsSound t → IsTied m t → group_of t n ≡ Some group
    → slice_get group.slots k ≡ Some (Some slot) → map (changed_at n (emptied_at k)) t.groups ≡ map (group_without slot.serial) t.groups

-- if a sound table is tied to the memory that its heap means, all its records have serials below the next one
abbrev pub TiedRecordsAreBelow : Type 0
TiedRecordsAreBelow = (next : ℕ) (t : Table) (targets : ℕ → Target) (bytes : Place → ℕ) (roots : List (Option ℕ)) → IsSound t
    → IsTied (meaning next (records_of t) targets bytes roots) t → AreBelow next (records_of t)

-- if a sound table is tied to the memory that its heap means, the record of a filled slot's serial is the record of
-- that slot
abbrev pub SlotHasRecord : Type 0
SlotHasRecord = (next : ℕ) (t : Table) (targets : ℕ → Target) (bytes : Place → ℕ) (roots : List (Option ℕ)) (n k : ℕ) (group : Group) (slot : Slot)
    → IsSound t → IsTied (meaning next (records_of t) targets bytes roots) t → group_of t n ≡ Some group
    → slice_get group.slots k ≡ Some (Some slot) → record_with slot.serial (records_of t) ≡ Some (record_in group.class k slot)

-- a filled slot of the table whose record this is
pub record IsOfSlot (t : Table) (r : Record) : Type 0 where
  pub class : ℕ
  pub k : ℕ
  pub slot : Slot
  pub filled : IsFilled t class k slot
  pub is : r ≡ record_in filled.group.class k slot

-- in a sound table, the record found for a serial has that serial and is the record of a filled slot
abbrev pub RecordHasSlot : Type 0
RecordHasSlot = (t : Table) (serial : ℕ) (r : Record) → IsSound t → record_with serial (records_of t) ≡ Some r → (r.serial ≡ serial) × IsOfSlot t r
