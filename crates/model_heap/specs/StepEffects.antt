-- What a step of a mesh does to page map, bytes and free pages, and that it does nothing else. Protecting, copying and
-- remapping follow the publication that Mesh.antt names. The order of the steps is this project's own choice.
use Rattle.std.specs.Prelude.{ℕ, zero, suc, ◌+◌, ◌-◌, ◌*◌, ◌/◌, ◌%◌, Bool, true, false, ◌&&◌, if◌then◌else◌, nat_eq, List, Option, Some, None, slice_index, slice_index_or}
use Rattle.model_words.specs.Classes.{pages_of, slots_of}
use Rattle.model_heap.specs.Mesh.{kind_after, page_count, virtual_pages}
use Rattle.model_heap.specs.Places.{Place, Target, with_protection}
use Rattle.model_heap.specs.Table.{Group, Made, Progress, Slot, Unwinding}
use Rattle.model_words.specs.declared.commands.StepKind.{StepKind}
use Rattle.model_words.specs.declared.commands.StepKind.TheVariants.{Protect, Copy, Remap, Unprotect, Release}

-- the memory below a table: the page map, the byte at each place, and whether each physical page is free
pub record Under : Type 0 where
  pub targets : ℕ → Target
  pub bytes : Place → ℕ
  pub is_free : ℕ → Bool

-- the two sides of a mesh: the source group, its physical pages, and the destination's physical pages, both lists in
-- the order of their span
pub record Sides : Type 0 where
  pub source : Group
  pub from : List ℕ
  pub into : List ℕ

-- the page map with one virtual page mapped to another physical page; the protection doesn't change
abbrev pub with_page : (ℕ → Target) → ℕ → ℕ → ℕ → Target
with_page targets v page w = if nat_eq w v then record (targets w) { page = page } else targets w

-- the free pages with one more
abbrev pub with_free : (ℕ → Bool) → ℕ → ℕ → Bool
with_free is_free page other = if nat_eq other page then true else is_free other

-- the place of an offset in a span of these physical pages
abbrev pub place_at : List ℕ → ℕ → Place
place_at pages offset = record { page = slice_index pages (offset / 4096); offset = offset % 4096 }

-- whether the two places are equal
abbrev pub is_place : Place → Place → Bool
is_place x y = nat_eq x.page y.page && nat_eq x.offset y.offset

-- the bytes after `len` bytes are copied from one span to another, at the same offsets from `offset` on
abbrev pub with_copied : List ℕ → List ℕ → ℕ → ℕ → (Place → ℕ) → Place → ℕ
with_copied from into offset zero bytes place = bytes place
with_copied from into offset (suc len) bytes place =
    if is_place place (place_at into offset) then bytes (place_at from offset) else with_copied from into (offset + 1) len bytes place

-- the bytes after the object of slot `k`, if there is one, is copied
abbrev pub with_slot_copied : Sides → ℕ → Option Slot → (Place → ℕ) → Place → ℕ
with_slot_copied sides k None bytes = bytes
with_slot_copied sides k (Some slot) bytes = with_copied sides.from sides.into (k * sides.source.class) slot.len bytes

-- page `i` of the source's virtual pages
abbrev pub source_page : Sides → ℕ → ℕ
source_page sides i = slice_index (virtual_pages sides.source) i

-- the effect of step number `i` of a kind; the first step of each kind has the number 0
abbrev pub effect : StepKind → Sides → ℕ → Under → Under
effect Protect sides i under = record under { targets = with_protection under.targets (source_page sides i) true }
effect Copy sides k under =
    record under { bytes = with_slot_copied sides k (slice_index_or sides.source.slots k None) under.bytes }
effect Remap sides i under =
    record under { targets = with_page under.targets (source_page sides i) (slice_index sides.into (i % pages_of sides.source.class)) }
effect Unprotect sides i under = record under { targets = with_protection under.targets (source_page sides i) false }
effect Release sides j under = record under { is_free = with_free under.is_free (slice_index sides.from j) }

-- the number of steps in a mesh before the first step of a kind
abbrev pub steps_before : Group → StepKind → ℕ
steps_before source Protect = 0
steps_before source Copy = page_count source
steps_before source Remap = page_count source + slots_of source.class
steps_before source Unprotect = 2 * page_count source + slots_of source.class
steps_before source Release = 3 * page_count source + slots_of source.class

-- the effect of the next step at a progress; in a cancelled mesh this is the next unprotect
abbrev pub step_effect : Sides → Progress → Under → Under
step_effect sides (Made d) under =
    effect (kind_after sides.source d) sides (d - steps_before sides.source (kind_after sides.source d)) under
step_effect sides (Unwinding q u) under = effect Unprotect sides u under
