-- A heap: pages, page map and index with the next serial, the reference memory that it represents, and what its calls
-- do to both.
use Rattle.std.specs.Prelude.{◌≡◌, ℕ, ◌+◌, ◌-◌, ◌<◌, ◌≤◌, Bool, true, false, not, nat_eq, List, [], ◌∷◌, length, Option, Some, None, Result, Ok, Err, IsOk, slice_index, slice_range, refl}
use Rattle.std.specs.Coded.{Coded, code_by, coded×, coded_ℕ}
use Rattle.mesh_arena.specs.Pages.{Pages}
use Rattle.mesh_page_heap.specs.PageHeapInvariant.{bytes_in, targets_of}
use Rattle.model_words.specs.Classes.{class_for}
use Rattle.model_memory.specs.Memory.{Memory, Object, object_of, with_object, with_new}
use Rattle.model_heap.specs.Places.{Record, meaning, object_at, records_of, record_with}
use Rattle.model_memory.specs.Plain.{Named, copied, ends_outside, holding, stored}
use Rattle.model_heap.specs.Sound.{IsSound, IsTied}
use Rattle.model_heap.specs.Table.{Placed, Table, place_new, without_object}
use Rattle.model_words.specs.Words.{◌>>=◌, or_refuse, refuse_if}
use Rattle.model_words.specs.declared.refusals.Refusal.{Refusal}
use Rattle.model_words.specs.declared.refusals.Refusal.TheVariants.{Freed, Outside}
use Rattle.mesh_pagemap.specs.Entries.{Entries}
use Rattle.mesh_spans.specs.Index.{Index}
use Rattle.mesh_page_heap.specs.PageHeap.{IsInSlotOf, PageHeap, open_group, page_heap_code, table_in}
use Rattle.model_words.specs.declared.answers.NewFault.{NewFault}
use Rattle.model_words.specs.declared.answers.NewFault.TheVariants.{Memory as NoMemory, Refused as NewRefused}
use Rattle.mesh_page_heap.specs.declared.answers.Occupied.{Occupied}
use Rattle.mesh_steps.specs.declared.answers.Ref.{Ref}
use Rattle.mesh_steps.specs.declared.answers.Stored.{Stored}
use Rattle.mesh_steps.specs.declared.answers.Stored.TheVariants.{Blocked, Done, Refused}

-- a heap: its page heap, and the serial of the next object
pub record Heap : Type 0 where
  pub pages : PageHeap
  pub next_serial : ℕ

-- a heap is stored as its parts
abbrev pub heap_code : Coded Heap
heap_code = code_by (PageHeap × ℕ) (coded× page_heap_code coded_ℕ) (λ h. (h.pages, h.next_serial)) (λ p. record { pages = p.0; next_serial = p.1 }) (λ _. refl)

-- the table, the physical pages, the page map and the span index of a heap
abbrev pub table_of : Heap → Table
table_of h = table_in h.pages

abbrev pub arena_of : Heap → Pages
arena_of h = h.pages.arena

abbrev pub map_of : Heap → Entries
map_of h = h.pages.map

abbrev pub index_of : Heap → Index
index_of h = h.pages.index

-- the records of a heap's live objects
abbrev pub live_records : Heap → List Record
live_records h = records_of (table_of h)

-- the reference memory that the heap represents with these roots: its objects, read from the arena through the page map
abbrev pub memory_of : Heap → List (Option ℕ) → Memory
memory_of h roots = meaning h.next_serial (live_records h) (targets_of (map_of h)) (bytes_in (arena_of h)) roots

-- the reference memory that the heap represents without roots
abbrev pub plain_of : Heap → Memory
plain_of h = memory_of h []

-- the table is sound, and tied to the reference memory that the heap represents
pub record IsHeap (h : Heap) : Type 0 where
  pub sound : IsSound (table_of h)
  pub tied : IsTied (plain_of h) (table_of h)

-- the live object that a reference names: the object with the reference's serial, if it is at the reference's address
abbrev pub referred : Memory → Ref → Result Named Refusal
referred m object =
    or_refuse Freed (object_of m object.serial) >>= λ live. refuse_if Freed (not (nat_eq live.address object.addr)) >>= λ _.
    Ok (record { serial = object.serial; object = live })

-- the bytes that a read through a reference returns
abbrev pub bytes_at : Memory → Ref → ℕ → ℕ → Result (List ℕ) Refusal
bytes_at m object off len =
    referred m object >>= λ named. refuse_if Outside (ends_outside named.object off len) >>= λ _. Ok (slice_range named.object.bytes off (off + len))

-- the memory after a store through a reference
abbrev pub stored_at : Memory → Ref → ℕ → List ℕ → Result Memory Refusal
stored_at m object off bytes =
    referred m object >>= λ named. refuse_if Outside (ends_outside named.object off (length bytes)) >>= λ _. Ok (stored m named off bytes)

-- the memory after a copy between ranges of two references, which may name one object. FREED of either reference is
-- answered before OUTSIDE of either
abbrev pub copied_at : Memory → Ref → ℕ → Ref → ℕ → ℕ → Result Memory Refusal
copied_at m to to_off from from_off len =
    referred m to >>= λ target. referred m from >>= λ source. refuse_if Outside (ends_outside target.object to_off len) >>= λ _.
    refuse_if Outside (ends_outside source.object from_off len) >>= λ _. Ok (copied m target to_off source from_off len)

-- the memory after a free through a reference
abbrev pub freed_at : Memory → Ref → Result Memory Refusal
freed_at m object = referred m object >>= λ named. Ok (with_object m named.serial None)

-- the byte of a live object at an address
abbrev pub byte_at_address : Memory → ℕ → Result ℕ Refusal
byte_at_address m addr = holding m addr >>= λ named. Ok (slice_index named.object.bytes (addr - named.object.address))

-- the memory after a byte is stored at an address
abbrev pub stored_at_address : Memory → ℕ → ℕ → Result Memory Refusal
stored_at_address m addr byte = holding m addr >>= λ named. Ok (stored m named (addr - named.object.address) (byte ∷ []))

-- the number of physical pages is unchanged
abbrev pub HasAsManyPages : Heap → Heap → Type 0
HasAsManyPages old new = length (arena_of new) ≡ length (arena_of old)

-- a store was done: it changed memory as the reference memory does, no touched page is read-only, and table, next
-- serial and number of pages are unchanged
pub record IsStored (old new : Heap) (after : Result Memory Refusal) (touches : Bool) : Type 0 where
  pub memory : after ≡ Ok (plain_of new)
  pub may : touches ≡ false
  pub table : table_of new ≡ table_of old
  pub serial : new.next_serial ≡ old.next_serial
  pub pages : HasAsManyPages old new

-- a store was blocked: nothing refuses it, a touched page is read-only, and nothing changed
pub record IsHeldBack (old new : Heap) (after : Result Memory Refusal) (touches : Bool) : Type 0 where
  pub allowed : IsOk after
  pub read_only : touches ≡ true
  pub same : new ≡ old

-- a store was refused, as the reference memory refuses it, and nothing changed
pub record IsRefused (old new : Heap) (after : Result Memory Refusal) (refusal : Refusal) : Type 0 where
  pub told : after ≡ Err refusal
  pub same : new ≡ old

-- the effect of a store, by its result
pub record IsStore (old new : Heap) (after : Result Memory Refusal) (touches : Bool) (result : Stored) : Type 0 where
  pub done : result ≡ Done → IsStored old new after touches
  pub blocked : result ≡ Blocked → IsHeldBack old new after touches
  pub refused : (refusal : Refusal) → result ≡ Refused refusal → IsRefused old new after refusal

-- the effect of a free: the object is removed, and all pages with their bytes are unchanged
pub record IsFree (old new : Heap) (object : Ref) : Type 0 where
  pub memory : freed_at (plain_of old) object ≡ Ok (plain_of new)
  pub table : table_of new ≡ without_object (table_of old) object.serial
  pub serial : new.next_serial ≡ old.next_serial
  pub arena : arena_of new ≡ arena_of old
  pub map : map_of new ≡ map_of old

-- the effect of a `new`: the object is where the table places it, and contains zeros
pub record IsMade (old new : Heap) (len word : ℕ) (object : Ref) : Type 0 where
  pub placed : Placed
  pub placed_is : place_new (table_of old) len word old.next_serial ≡ Ok placed
  pub serial : object.serial ≡ old.next_serial
  pub address : object.addr ≡ placed.address
  pub table : table_of new ≡ placed.table
  pub memory : plain_of new ≡ with_new (plain_of old) len placed.address
  pub next : new.next_serial ≡ old.next_serial + 1
  pub pages : HasAsManyPages old new

-- a new object needs a new span, and there is room for one: no group of the object's class, which its length
-- determines, is open
pub record NeedsSpan (old : Heap) (len word : ℕ) : Type 0 where
  pub class : ℕ
  pub class_is : class_for len ≡ Some class
  pub placed : Placed
  pub placed_is : place_new (table_of old) len word old.next_serial ≡ Ok placed
  pub none_open : open_group (table_of old) class ≡ None

-- no object was made, and nothing changed: either the table refuses the object, or it needs a new span and memory for
-- the span was refused
abbrev pub IsNotMade : Heap → Heap → ℕ → ℕ → NewFault → Type 0
IsNotMade old new len word (NewRefused refusal) = (place_new (table_of old) len word old.next_serial ≡ Err refusal) × (new ≡ old)
IsNotMade old new len word NoMemory = NeedsSpan old len word × (new ≡ old)

-- the object in whose slot the address is, with the object's record
pub record IsObjectAt (h : Heap) (addr : ℕ) (o : Occupied) : Type 0 where
  pub address : ℕ
  pub at : address + o.offset ≡ addr
  pub recorded : record_with o.serial (live_records h) ≡ Some (record { serial = o.serial; address = address; len = o.len })
  pub in_slot : IsInSlotOf (index_of h) addr o.span o.slot o.offset o.serial o.len

-- a live object with this serial is at the address, and has at least this many bytes
pub record IsLiveFor (h : Heap) (serial address bytes : ℕ) : Type 0 where
  pub len : ℕ
  pub recorded : record_with serial (live_records h) ≡ Some (record { serial = serial; address = address; len = len })
  pub enough : bytes ≤ len

-- the memory after bytes are stored in the object with this serial, which is at this address
abbrev pub stored_in : Heap → ℕ → ℕ → ℕ → List ℕ → Result Memory Refusal
stored_in h serial address off bytes = stored_at (plain_of h) (record { serial = serial; addr = address }) off bytes

-- the object with its bytes that a record represents in the heap
abbrev pub object_in : Heap → Record → Object
object_in h r = object_at (targets_of (map_of h)) (bytes_in (arena_of h)) r

-- the record with this serial, address and length
abbrev pub live_record : ℕ → ℕ → ℕ → Record
live_record serial address len = record { serial = serial; address = address; len = len }

-- the object that a reference names, with the object's record
pub record IsReferred (h : Heap) (object : Ref) (o : Occupied) : Type 0 where
  pub at : IsObjectAt h object.addr o
  pub serial : o.serial ≡ object.serial
  pub begins : o.offset ≡ 0
  pub recorded : record_with object.serial (live_records h) ≡ Some (live_record object.serial object.addr o.len)
  pub in_slot : IsInSlotOf (index_of h) object.addr o.span o.slot 0 object.serial o.len
  pub named : referred (plain_of h) object ≡ Ok (record { serial = object.serial; object = object_in h (live_record object.serial object.addr o.len) })

-- the object whose range contains the address, with the object's record
pub record IsHeld (h : Heap) (addr : ℕ) (o : Occupied) : Type 0 where
  pub address : ℕ
  pub at : address + o.offset ≡ addr
  pub within : o.offset < o.len
  pub recorded : record_with o.serial (live_records h) ≡ Some (live_record o.serial address o.len)
  pub in_slot : IsInSlotOf (index_of h) addr o.span o.slot o.offset o.serial o.len
  pub held : holding (plain_of h) addr ≡ Ok (record { serial = o.serial; object = object_in h (live_record o.serial address o.len) })
