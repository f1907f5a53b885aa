-- What an object put into a free slot, and one taken out of its slot, leave of a page heap.
use Rattle.std.proofs.Common.{◌≡◌, ℕ, ◌+◌, ◌<◌, ◌≤◌, ◌⊎◌, List, Option, Some, None, length, map, replicate, slice_index_or, slice_set, ap, subst, refl, sym, ◌∙◌, arith, inl, inr}
use Rattle.std.specs.Option.{option_map}
use Rattle.std.proofs.lemmas.Bool.Decides.{eqb_tells}
use Rattle.std.proofs.lemmas.List.{get_or-set_other, get_or-set_same, length-replicate}
use Rattle.std.proofs.lemmas.Option.{get_or_from_slice_get, slice_get_within}
use Rattle.mesh_arena.specs.Pages.{Pages, free_count}
use Rattle.mesh_class.specs.Classes.{slots_of}
use Rattle.mesh_page_heap.proofs.Changes.{index_alike, open_calm}
use Rattle.mesh_page_heap.proofs.Ends.{page_heap_make}
use Rattle.mesh_page_heap.proofs.PageHeapChanges.{entry_groups, page_heap_free, page_heap_put}
use Rattle.mesh_page_heap.proofs.PageHeapSteps.{page_heap_orderly}
use Rattle.mesh_page_heap.proofs.LiveObjects.{calm_open}
use Rattle.mesh_page_heap.proofs.Stores.{store_others}
use Rattle.mesh_page_heap.specs.Indexes.{class_in, layout_of, slots_in, table_with}
use Rattle.mesh_page_heap.specs.Layout.{IsCovered}
use Rattle.mesh_page_heap.specs.MeshLayouts.{stage_of}
use Rattle.mesh_page_heap.specs.PageHeapInvariant.{IsPageHeap}
use Rattle.model_heap.specs.Sound.{IsSound}
use Rattle.model_heap.specs.Table.{Slot, Table, changed_at, emptied_at, slot_address, with_object_in}
use Rattle.mesh_spans.specs.Groups.{groups_of, is_closed}
use Rattle.mesh_spans.specs.Index.{GroupEntry, Index, IsIndex, address_in, group_at, span_at, with_entry, with_slot}
use Rattle.mesh_store.specs.Places.{IsOpen, Saves}
use Rattle.mesh_page_heap.proofs.GroupNumbers.{group_below}
use Rattle.mesh_page_heap.specs.PageHeap.{IsFreeSlot, KeepsOutside, PageHeap, first_page, group_number, table_emptied, table_with_object}

-- the addresses of a free slot are in its group
pub free_covered : (index : Index) (class span k addr len : ℕ) → IsIndex index.spans index.groups → (f : IsFreeSlot index class span k)
    → addr ≡ address_in (span_at index.spans span) k → len ≤ class → IsCovered (layout_of index) (group_number index span) 0 k addr len
free_covered index class span k addr len sound f at fits = grind arith

-- no page of a free slot is read-only
pub free_open : (g : PageHeap) (class span k addr len : ℕ) → IsIndex g.index.spans g.index.groups → IsPageHeap g.arena g.map g.index g.next_page g.meshes
    → IsFreeSlot g.index class span k → addr ≡ address_in (span_at g.index.spans span) k → len ≤ class → IsOpen g.map addr len
free_open g class span k addr len sound paged f at fits =
    let calm = open_calm (layout_of g.index) _ _ (sym (paged.flags (group_number g.index span)) ∙ f.calm) in
    calm_open _ _ _ _ _ _ _ _ _ (page_heap_orderly _ _ _ _ _ sound paged) paged.laid_out calm.0 (free_covered _ _ _ _ _ _ sound f at fits)

-- the object that stands in a slot of a span
abbrev pub put_object : Index → ℕ → ℕ → ℕ → Slot
put_object index span serial len = record { member = first_page index span; serial = serial; len = len }

-- an object was put into a slot of a span, and nothing else of the index changed
pub record IsOccupied (old new : Index) (span k serial len : ℕ) : Type 0 where
  pub spans : new.spans ≡ old.spans
  pub groups : new.groups ≡ with_entry old.groups (group_number old span) k (Some (put_object old span serial len))
  pub table : groups_of new ≡ map (changed_at (group_number old span) (with_object_in k (put_object old span serial len))) (groups_of old)
  pub closed : (n : ℕ) → is_closed new n ≡ is_closed old n

-- the slots of the group are as they were, with the object put into this one
put_slots : (old new : Index) (class span k serial len : ℕ) (f : IsFreeSlot old class span k) → IsOccupied old new span k serial len
    → slots_in (group_at new.groups (group_number old span)) ≡ slice_set f.vacant.group.slots k (Some (put_object old span serial len))
put_slots old new class span k serial len f is =
    let n : ℕ = group_number old span in
    let changed : Option GroupEntry → Option GroupEntry = option_map (with_slot k (Some (put_object old span serial len))) in
    let there = f.vacant.there in
    ap (λ (gs : List (Option GroupEntry)). slots_in (group_at gs n)) is.groups
    ∙ ap slots_in (get_or-set_same old.groups n (changed (group_at old.groups n)) None (group_below old.groups n f.vacant.group there) ∙ ap changed there)

-- the object stands in the slot where it was put
put_there : (old new : Index) (class span k serial len : ℕ) → IsFreeSlot old class span k → IsOccupied old new span k serial len
    → (layout_of new).slot (group_number old span) k ≡ Some (put_object old span serial len)
put_there old new class span k serial len f is =
    ap (λ (slots : List (Option Slot)). slice_index_or slots k None) (put_slots old new class span k serial len f is)
    ∙ get_or-set_same f.vacant.group.slots k (Some (put_object old span serial len)) None (slice_get_within f.vacant.group.slots k None f.vacant.free)

-- the table with an object that was put
pub put_table : (g : PageHeap) (index : Index) (span k serial len : ℕ) → IsOccupied g.index index span k serial len
    → table_with g.arena index g.next_page g.meshes ≡ table_with_object g span k serial len
put_table g index span k serial len is = rw (is.table, is.spans) refl

-- the same once its bytes are stored
pub put_saved : (g : PageHeap) (arena : Pages) (index : Index) (span k serial len : ℕ) → IsOccupied g.index index span k serial len
    → free_count arena ≡ free_count g.arena → table_with arena index g.next_page g.meshes ≡ table_with_object g span k serial len
put_saved g arena index span k serial len is same = rw same (put_table g index span k serial len is)

-- an object of zeros was put into a free slot
pub record IsPut (g : PageHeap) (arena : Pages) (index : Index) (class span k serial len addr : ℕ) : Type 0 where
  pub before : IsIndex g.index.spans g.index.groups
  pub after : IsIndex index.spans index.groups
  pub paged : IsPageHeap g.arena g.map g.index g.next_page g.meshes
  pub free : IsFreeSlot g.index class span k
  pub at : addr ≡ address_in (span_at g.index.spans span) k
  pub fits : len ≤ class
  pub occupied : IsOccupied g.index index span k serial len
  pub table : IsSound (table_with_object g span k serial len)
  pub saves : Saves g.arena arena g.map addr (replicate len 0)

-- an object of zeros put into a free slot leaves a page heap
pub put_paged : (g : PageHeap) (arena : Pages) (index : Index) (class span k serial len addr : ℕ) → IsPut g arena index class span k serial len addr
    → IsPageHeap arena g.map index g.next_page g.meshes
put_paged g arena index class span k serial len addr p =
    let n : ℕ = group_number g.index span in
    let alike = index_alike _ _ (entry_groups _ _ _ _ _ p.occupied.spans p.occupied.groups) in
    let vacant = p.free.vacant in
    let same : (layout_of index).class n ≡ class = alike.class n ∙ ap class_in vacant.there ∙ vacant.same_class in
    let zeros : length {A = ℕ} (replicate len 0) ≡ len = length-replicate len 0 in
    let start : slot_address (first_page g.index span) ((layout_of index).class n) k ≡ addr
    = ap (λ (c : ℕ). slot_address (first_page g.index span) c k) (same ∙ sym vacant.of_class) ∙ sym p.at in
    let covered = free_covered _ _ _ _ _ _ p.before p.free p.at p.fits in
    let from : slot_address ((layout_of index).first n 0) ((layout_of index).class n) k ≡ slot_address (first_page g.index span) ((layout_of index).class n) k
    = ap (λ (m : ℕ). slot_address m ((layout_of index).class n) k) (alike.first n 0 ∙ sym p.free.first) in
    page_heap_make _ _ _ _ _ _ _ _ _ _ _ _ p.before p.after p.paged
    p.occupied.spans p.occupied.groups p.occupied.closed p.free.calm (subst (λ (t : Table). IsSound t) (sym (put_table g _ _ _ _ _ p.occupied)) p.table)
    (put_there _ _ _ _ _ _ _ p.free p.occupied) (omega (arith, zeros)) (record {
      member = subst (λ (m : ℕ). 0 < m) (sym (alike.members n)) covered.member;
      in_range = subst (λ (c : ℕ). k < slots_of c) (sym (alike.class n)) covered.in_range;
      low = omega (arith, from);
      high = omega (arith, from, zeros, p.fits, same);
    })
    (subst (λ (a : ℕ). Saves g.arena arena g.map a (replicate len 0)) (sym start) p.saves)

-- what stood in a slot stands there once an object was put into a free one
put_others : (old new : Index) (class span k serial len : ℕ) → IsFreeSlot old class span k → IsOccupied old new span k serial len → (m j : ℕ) (slot : Slot)
    → (layout_of old).slot m j ≡ Some slot → (layout_of new).slot m j ≡ Some slot
put_others old new class span k serial len f is m j slot filled =
    let n : ℕ = group_number old span in
    let entry : Option Slot = Some (put_object old span serial len) in elim (eqb_tells m n) [
      | inr other ↦ ap (λ (gs : List (Option GroupEntry)). slice_index_or (slots_in (group_at gs m)) j None) is.groups
          ∙ ap (λ (o : Option GroupEntry). slice_index_or (slots_in o) j None)
          (get_or-set_other old.groups n m (option_map (with_slot k entry) (group_at old.groups n)) None other.1) ∙ filled
      | inl same ↦ subst (λ (x : ℕ). (layout_of new).slot x j ≡ Some slot) (sym same.1)
          (ap (λ (slots : List (Option Slot)). slice_index_or slots j None) (put_slots old new class span k serial len f is)
          ∙ here (subst (λ (x : ℕ). (layout_of old).slot x j ≡ Some slot) same.1 filled))
    ]
  where
    here : (layout_of old).slot (group_number old span) j ≡ Some slot
        → slice_index_or (slice_set f.vacant.group.slots k (Some (put_object old span serial len))) j None ≡ Some slot
    here filled' =
        let slots : List (Option Slot) = f.vacant.group.slots in
        let now : slice_index_or slots j None ≡ Some slot = sym (ap (λ (o : Option GroupEntry). slice_index_or (slots_in o) j None) f.vacant.there) ∙ filled' in
        elim (eqb_tells j k) [
          | inr other ↦ get_or-set_other slots k j (Some (put_object old span serial len)) None other.1 ∙ now
          | inl same ↦ absurd (let none : slice_index_or slots k None ≡ None = get_or_from_slice_get slots k None None f.vacant.free in
              let two : ◌≡◌ {A = Option Slot} None (Some slot) = sym none ∙ ap (λ (x : ℕ). slice_index_or slots x None) (sym same.1) ∙ now in cc two)
        ]

-- each byte of an object that is outside of the zeros put into a free slot is as it was
pub put_keeps : (g : PageHeap) (arena : Pages) (index : Index) (class span k serial len addr : ℕ) → IsPut g arena index class span k serial len addr
    → KeepsOutside g (record { arena = arena; map = g.map; index = index; next_page = g.next_page; meshes = g.meshes }) addr len
put_keeps g arena index class span k serial len addr p m j o x slot live outside =
    let n : ℕ = group_number g.index span in
    let alike = index_alike g.index index (entry_groups g.index index n k (Some (put_object g.index span serial len)) p.occupied.spans p.occupied.groups) in
    let vacant = p.free.vacant in
    let same : (layout_of index).class n ≡ class = alike.class n ∙ ap class_in vacant.there ∙ vacant.same_class in
    let zeros : length {A = ℕ} (replicate len 0) ≡ len = length-replicate len 0 in
    let start : slot_address (first_page g.index span) ((layout_of index).class n) k + 0 ≡ addr
    = (let zeroth : slot_address (first_page g.index span) ((layout_of index).class n) k + 0 ≡ slot_address (first_page g.index span) ((layout_of index).class n) k = omega arith in
    zeroth ∙ ap (λ (c : ℕ). slot_address (first_page g.index span) c k) (same ∙ sym vacant.of_class) ∙ sym p.at) in
    let mid = page_heap_put g.arena g.map g.index index g.next_page g.meshes n k (Some (put_object g.index span serial len)) p.before p.paged p.occupied.spans p.occupied.groups
    p.occupied.closed p.free.calm (subst (λ (t : Table). IsSound t) (sym (put_table g index span k serial len p.occupied)) p.table) in
    let open_ : IsOpen g.map addr (length {A = ℕ} (replicate len 0))
    = subst (λ (l : ℕ). IsOpen g.map addr l) (sym zeros) (free_open g class span k addr len p.before p.paged p.free p.at p.fits) in
    store_others (layout_of index) (stage_of (layout_of index) g.meshes) g.map g.arena arena n k 0 addr (put_object g.index span serial len) (replicate len 0)
    (page_heap_orderly g.arena g.map index g.next_page g.meshes p.after mid) mid.laid_out (put_there g.index index class span k serial len p.free p.occupied)
    (omega (arith, zeros)) start open_ p.saves m j o x slot (record {
      filled = put_others g.index index class span k serial len p.free p.occupied m j slot live.filled;
      within = live.within;
      at = ap (λ (c : ℕ). slot_address slot.member c j + o) (alike.class m) ∙ live.at;
    }) (subst (λ (l : ℕ). (x < addr) ⊎ (addr + l ≤ x)) (sym zeros) outside)

-- a slot of a span was emptied, and nothing else of the index changed
pub record IsVacated (old new : Index) (span k : ℕ) : Type 0 where
  pub spans : new.spans ≡ old.spans
  pub groups : new.groups ≡ with_entry old.groups (group_number old span) k None
  pub table : groups_of new ≡ map (changed_at (group_number old span) (emptied_at k)) (groups_of old)
  pub closed : (n : ℕ) → is_closed new n ≡ is_closed old n

-- the table without an object that was taken out
pub out_table : (g : PageHeap) (index : Index) (span k : ℕ) → IsVacated g.index index span k
    → table_with g.arena index g.next_page g.meshes ≡ table_emptied g span k
out_table g index span k is = rw (is.table, is.spans) refl

-- an object taken out leaves a page heap
pub out_paged : (g : PageHeap) (index : Index) (span k : ℕ) → IsPageHeap g.arena g.map g.index g.next_page g.meshes → IsVacated g.index index span k
    → IsSound (table_emptied g span k) → IsPageHeap g.arena g.map index g.next_page g.meshes
out_paged g index span k paged is table =
    page_heap_free _ _ _ _ _ _ _ _ paged is.spans is.groups is.closed (subst (λ (t : Table). IsSound t) (sym (out_table g _ _ _ is)) table)
