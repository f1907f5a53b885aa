-- Physical pages, page map, span index and running meshes together, and how they change as objects come and go.
use Rattle.std.specs.Prelude.{◌≡◌, ℕ, ◌+◌, ◌/◌, ◌%◌, ◌<◌, ◌≤◌, ◌⊎◌, false, List, find, length, Option, None, Result, Ok, Err, refl}
use Rattle.std.specs.Coded.{Coded, code_by, coded×, coded_ℕ, coded_list, coded_option}
use Rattle.std.specs.FinMap as map
use Rattle.mesh_arena.specs.Pages.{Pages, byte_at}
use Rattle.mesh_class.specs.Classes.{slots_of}
use Rattle.mesh_page_heap.specs.Indexes.{layout_of, table_with}
use Rattle.mesh_page_heap.specs.Layout.{IsLiveAt}
use Rattle.mesh_page_heap.specs.StepChanges.{Keeps}
use Rattle.model_heap.specs.Table.{Group, Mesh, Slot, Report as PlainReport, Table, emptied_at, is_open, place_in, placed_in, room_for_span, with_group, with_object_in, with_span}
use Rattle.model_words.specs.declared.refusals.Refusal.{Refusal}
use Rattle.mesh_pagemap.specs.Entries.{Entries, entry_code, page_of}
use Rattle.mesh_spans.specs.Groups.{IsPicked, is_closed}
use Rattle.mesh_spans.specs.Index.{Index, IsRecorded, IsSpan, IsVacant, address_in, index_code, span_at}
use Rattle.mesh_running.specs.Progress.{mesh_code}
use Rattle.model_words.specs.declared.answers.NewFault.{NewFault}
use Rattle.mesh_page_heap.specs.declared.answers.Report.{Report}
use Rattle.model_words.specs.declared.answers.NewFault.TheVariants.{Memory, Refused}

-- physical pages, page map, span index, the lowest virtual page that was never used, and the running meshes
pub record PageHeap : Type 0 where
  pub arena : Pages
  pub map : Entries
  pub index : Index
  pub next_page : ℕ
  pub meshes : List Mesh

-- a page heap is stored as its parts
abbrev pub page_heap_code : Coded PageHeap
page_heap_code =
    code_by (Pages × (Entries × (Index × (ℕ × List Mesh))))
    (coded× (coded_list (coded_option (coded_list coded_ℕ))) (coded× (map.code coded_ℕ entry_code) (coded× index_code (coded× coded_ℕ (coded_list mesh_code)))))
    (λ g. (g.arena, (g.map, (g.index, (g.next_page, g.meshes)))))
    (λ p. record { arena = p.0; map = p.1.0; index = p.1.1.0; next_page = p.1.1.1.0; meshes = p.1.1.1.1 })
    (λ _. refl)

-- the table of a page heap
abbrev pub table_in : PageHeap → Table
table_in g = table_with g.arena g.index g.next_page g.meshes

-- the lowest open group of the class, if there is one
abbrev pub open_group : Table → ℕ → Option Group
open_group t class = find (is_open t class) t.groups

-- the counts of a returned report, as the definition's report
abbrev pub counts_told : Report → PlainReport
counts_told r = record { objects = r.objects; bytes = r.bytes; mapped = r.mapped; taken = r.taken; saved = r.saved }

-- an object is in slot `k` of the span, and the slot begins at this address
pub record IsStanding (index : Index) (span k serial len address : ℕ) : Type 0 where
  pub recorded : IsRecorded index span k serial len
  pub sound : IsSpan (span_at index.spans span)
  pub address_is : address_in (span_at index.spans span) k ≡ address

-- the address is at this offset from the start of an object's slot
pub record IsInSlotOf (index : Index) (addr span k offset serial len : ℕ) : Type 0 where
  pub address : ℕ
  pub at : address + offset ≡ addr
  pub standing : IsStanding index span k serial len address

-- the group of a span, and the span's first virtual page
abbrev pub group_number : Index → ℕ → ℕ
group_number index span = (span_at index.spans span).group

abbrev pub first_page : Index → ℕ → ℕ
first_page index span = (span_at index.spans span).first

-- the slot is vacant, and in the first member of a group that is in no mesh
pub record IsFreeSlot (index : Index) (class span k : ℕ) : Type 0 where
  pub vacant : IsVacant index class span k
  pub first : first_page index span ≡ (layout_of index).first (group_number index span) 0
  pub calm : is_closed index (group_number index span) ≡ false

-- the table with an object in a slot of a span
abbrev pub table_with_object : PageHeap → ℕ → ℕ → ℕ → ℕ → Table
table_with_object g span k serial len =
    with_group (table_in g) (group_number g.index span) (with_object_in k (record { member = first_page g.index span; serial = serial; len = len }))

-- the table with a slot of a span emptied
abbrev pub table_emptied : PageHeap → ℕ → ℕ → Table
table_emptied g span k = with_group (table_in g) (group_number g.index span) (emptied_at k)

-- every live object has its address as before, and each of its bytes is unchanged
pub record KeepsObjects (old new : PageHeap) : Type 0 where
  pub stay : (n k o x : ℕ) (slot : Slot) → IsLiveAt (layout_of old.index) n k o x slot → IsLiveAt (layout_of new.index) n k o x slot
  pub bytes : Keeps (layout_of old.index) old.arena new.arena old.map new.map

-- each byte of a live object outside of the range is unchanged
abbrev pub KeepsOutside : PageHeap → PageHeap → ℕ → ℕ → Type 0
KeepsOutside old new addr len = (n k o x : ℕ) (slot : Slot) → IsLiveAt (layout_of old.index) n k o x slot → (x < addr) ⊎ (addr + len ≤ x)
    → byte_at new.arena (page_of new.map (x / 4096)) (x % 4096) ≡ byte_at old.arena (page_of old.map (x / 4096)) (x % 4096)

-- the slot is the one in which the table places the next object of the class, and no byte of a live object has changed
pub record IsPlace (old new : PageHeap) (class word span k : ℕ) : Type 0 where
  pub group : Group
  pub placed : (serial len : ℕ) → place_in (open_group (table_in old) class) (table_in old) class word serial len ≡ Ok (placed_in (table_in new) group word serial len)
  pub picked : IsPicked new.index group word span k
  pub same_class : group.class ≡ class
  pub free : IsFreeSlot new.index class span k
  pub kept : KeepsObjects old new

-- a fresh span of the class was added, as the table adds one: all its slots are free, and the live objects are
-- unchanged
pub record IsFreshSpan (old new : PageHeap) (class span : ℕ) : Type 0 where
  pub number : span ≡ length old.index.spans
  pub table : table_in new ≡ with_span (table_in old) class
  pub first : first_page new.index span ≡ old.next_page
  pub group : group_number new.index span ≡ span
  pub room : room_for_span (table_in old) class ≡ Ok tt
  pub free : (k : ℕ) → k < slots_of class → IsFreeSlot new.index class span k
  pub kept : KeepsObjects old new

-- whether there was room for a span that was not added: no, by the table's refusal, or yes, but memory was refused
abbrev pub room_at : NewFault → Result (Unit {0}) Refusal
room_at (Refused refusal) = Err refusal
room_at Memory = Ok tt

-- no span was added, and nothing changed: either there is no room for a span, or memory was refused
pub record IsSpanFault (old new : PageHeap) (class : ℕ) (fault : NewFault) : Type 0 where
  pub room : room_for_span (table_in old) class ≡ room_at fault
  pub same : new ≡ old

-- no slot was found, and nothing changed: no group of the class is open, and no span could be added
pub record IsPlaceFault (old new : PageHeap) (class : ℕ) (fault : NewFault) : Type 0 where
  pub none_open : open_group (table_in old) class ≡ None
  pub room : room_for_span (table_in old) class ≡ room_at fault
  pub same : new ≡ old
