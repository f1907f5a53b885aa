-- Where the byte of an address is, and which reference memory a heap with root cells means. This project's own choice.
use Rattle.std.specs.Prelude.{◌≡◌, ℕ, ◌+◌, ◌<◌, ◌≤◌, ◌/◌, ◌%◌, Bool, if◌then◌else◌, nat_eq, List, [], ◌∷◌, Option, Some, None, map, find}
use Rattle.std.specs.List.{flat_map, list_any, range_with_len}
use Rattle.std.specs.Option.{option_map}
use Rattle.model_memory.specs.Memory.{Object, Memory}
use Rattle.model_heap.specs.Table.{Group, Slot, Table, slot_address}

-- the page map's entry for a virtual page: its physical page, and whether the virtual page is read-only
pub record Target : Type 0 where
  pub page : ℕ
  pub read_only : Bool

-- a place: a physical page and an offset in it
pub record Place : Type 0 where
  pub page : ℕ
  pub offset : ℕ

-- the place of an address under a page map
abbrev pub place_of : (ℕ → Target) → ℕ → Place
place_of targets address = record { page = (targets (address / 4096)).page; offset = address % 4096 }

-- the page map with one virtual page's protection changed
abbrev pub with_protection : (ℕ → Target) → ℕ → Bool → ℕ → Target
with_protection targets v read_only w = if nat_eq w v then record (targets w) { read_only = read_only } else targets w

-- the byte at the place of an address
abbrev pub byte_of : (ℕ → Target) → (Place → ℕ) → ℕ → ℕ
byte_of targets bytes address = bytes (place_of targets address)

-- a live object's record: its serial, its address and its length
pub record Record : Type 0 where
  pub serial : ℕ
  pub address : ℕ
  pub len : ℕ

-- the record of an object in a slot
abbrev pub record_in : ℕ → ℕ → Slot → Record
record_in class k slot = record { serial = slot.serial; address = slot_address slot.member class k; len = slot.len }

-- the records of the objects in these slots; the first slot has the number `k`
abbrev pub records_from : ℕ → ℕ → List (Option Slot) → List Record
records_from class k [] = []
records_from class k (None ∷ slots) = records_from class (k + 1) slots
records_from class k (Some slot ∷ slots) = record_in class k slot ∷ records_from class (k + 1) slots

-- the records of a group's objects
abbrev pub records_in : Group → List Record
records_in g = records_from g.class 0 g.slots

-- the records of all live objects
abbrev pub records_of : Table → List Record
records_of t = flat_map records_in t.groups

-- whether the record has the serial
abbrev pub has_serial : ℕ → Record → Bool
has_serial serial r = nat_eq r.serial serial

-- the record of a serial, if there is one
abbrev pub record_with : ℕ → List Record → Option Record
record_with serial records = find (has_serial serial) records

-- no record has the next serial or a higher serial
abbrev pub AreBelow : ℕ → List Record → Type 0
AreBelow next records = (serial : ℕ) → next ≤ serial → record_with serial records ≡ None

-- the address is an address of the record's object
abbrev pub IsIn : Record → ℕ → Type 0
IsIn r x = (r.address ≤ x) × (x < r.address + r.len)

-- the object that a record means: the record's address, and the bytes at the places of all addresses of the object
abbrev pub object_at : (ℕ → Target) → (Place → ℕ) → Record → Object
object_at targets bytes r = record { address = r.address; bytes = map (byte_of targets bytes) (range_with_len r.address r.len) }

-- the reference memory that a heap with root cells means: the cells and, for each serial below the next, the object of
-- its record, if there is one
abbrev pub meaning : ℕ → List Record → (ℕ → Target) → (Place → ℕ) → List (Option ℕ) → Memory
meaning next_serial records targets bytes roots = record {
  objects = map (λ serial. option_map (object_at targets bytes) (record_with serial records)) (range_with_len 0 next_serial);
  roots = roots;
}

-- whether the physical page holds a byte of the object
abbrev pub holds : (ℕ → Target) → ℕ → Record → Bool
holds targets page r = list_any (λ address. nat_eq (place_of targets address).page page) (range_with_len r.address r.len)
