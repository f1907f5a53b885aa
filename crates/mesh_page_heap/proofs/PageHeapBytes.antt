-- The bytes of a page heap's objects are backed, and a store to one leaves its invariant.
use Rattle.std.proofs.Common.{◌≡◌, ℕ, ◌+◌, ◌*◌, ◌/◌, ◌%◌, ◌<◌, ◌≤◌, false, List, [], Option, Some, None, length, slice_index, ap, subst, refl, arith, mod-lt, ◌-◌, sym, ◌∙◌}
use Rattle.mesh_arena.specs.Pages.{Pages, IsTaken}
use Rattle.mesh_class.specs.Classes.{pages_of}
use Rattle.model_heap.specs.Table.{Mesh, slot_address}
use Rattle.mesh_pagemap.specs.Entries.{AreInRange, Entries, is_mapped}
use Rattle.mesh_spans.specs.Groups.{groups_of}
use Rattle.mesh_spans.specs.Index.{GroupEntry, Index, IsIndex, group_at, span_at}
use Rattle.mesh_store.specs.Places.{AreBacked, IsOpen, Saves}
use Rattle.mesh_page_heap.specs.Indexes.{layout_of}
use Rattle.mesh_page_heap.specs.Layout.{AreInObject, IsCovered, IsPageOf, IsByteAt, IsLaidOut, IsOrderly, Layout, Stage}
use Rattle.mesh_page_heap.specs.PageHeapInvariant.{IsPageHeap}
use Rattle.mesh_page_heap.proofs.Homes.{byte_home, covered_byte}
use Rattle.mesh_page_heap.proofs.PageHeapChanges.{page_heap_bytes}
use Rattle.mesh_page_heap.proofs.PageHeapSteps.{page_heap_orderly}
use Rattle.mesh_page_heap.proofs.Pages.{member_of}
use Rattle.mesh_page_heap.proofs.Stores.{store_laid}

-- addresses in one slot are backed
covered_backed : (l : Layout) (f : ℕ → Stage) (m : Entries) (arena : Pages) (n place k addr len : ℕ) → IsOrderly l f → IsLaidOut l f m arena
    → AreInRange m → IsCovered l n place k addr len → AreBacked arena m addr len
covered_backed l f m arena n place k addr len orderly laid in_range covered = record {
  each = λ x low high. let h = byte_home l f m arena n place k (x - slot_address (l.first n place) (l.class n) k) x orderly laid (byte x low high) in record {
    first = (in_range (x / 4096) h.mapped).0;
    last = (in_range (x / 4096) h.mapped).1;
    mapped = h.mapped;
    taken = subst (λ (p : ℕ). IsTaken arena p) (sym h.page) (laid.taken h.a ((k * l.class n + (x - slot_address (l.first n place) (l.class n) k)) / 4096) h.held);
  };
  apart = λ x y low high low' high' other same.
      let h = byte_home l f m arena n place k (x - slot_address (l.first n place) (l.class n) k) x orderly laid (byte x low high) in
      let h' = byte_home l f m arena n place k (y - slot_address (l.first n place) (l.class n) k) y orderly laid (byte y low' high') in
      let one = laid.apart h.a ((k * l.class n + (x - slot_address (l.first n place) (l.class n) k)) / 4096) h'.a ((k * l.class n + (y - slot_address (l.first n place) (l.class n) k)) / 4096) h.held h'.held (sym h.page ∙ same ∙ h'.page) in
      let at = (byte x low high).at in
      let at' = (byte y low' high').at in
      other (page_is x (x - slot_address (l.first n place) (l.class n) k) (k * l.class n) (l.first n place) at ∙ ap (λ (j : ℕ). l.first n place + j) one.1 ∙ sym (page_is y (y - slot_address (l.first n place) (l.class n) k) (k * l.class n) (l.first n place) at'));
}
  where
    byte : (x : ℕ) → addr ≤ x → x < addr + len → IsByteAt l n place k (x - slot_address (l.first n place) (l.class n) k) x
    byte x low high = covered_byte l n place k addr len x covered low high

    page_is : (x o base v : ℕ) → 4096 * v + base + o ≡ x → x / 4096 ≡ v + (base + o) / 4096
    page_is x o base v at = omega (arith, at)

-- a page of a group is one of the virtual pages that there are
page_in_range : (index : Index) (n i v : ℕ) → IsIndex index.spans index.groups → IsPageOf (layout_of index) n i v → (1 ≤ v) × (v ≤ 65535)
page_in_range index n i v sound page = go (group_at index.groups n) refl
  where
    go : (o : Option GroupEntry) → group_at index.groups n ≡ o → (1 ≤ v) × (v ≤ 65535)
    go None there = absurd (let within : i < 0 * pages_of 0 = rw there at page.within in omega (arith, within))
    go (Some entry) there =
        let p : ℕ = pages_of entry.class in
        let at : (span_at index.spans (slice_index entry.members (i / p))).first + i % p ≡ v = rw there at page.at in
        let member = sound.members n (i / p) entry there (member_of (length entry.members) p i (rw there at page.within)) in
        let span = sound.span (slice_index entry.members (i / p)) member.below in
        (omega (arith, at, span.first), omega (arith, at, rw member.same_class at span.last, mod-lt i (sound.each n entry there).class.some_page))

-- a mapped page is one of the virtual pages that there are
pages_in_range : (arena : Pages) (m : Entries) (index : Index) (next : ℕ) (ms : List Mesh) → IsIndex index.spans index.groups → IsPageHeap arena m index next ms → AreInRange m
pages_in_range arena m index next ms sound paged v mapped =
    let page = paged.laid_out.only v mapped in page_in_range index page.n page.i v sound page.is

-- the addresses of a slot of a member of a group are backed
pub slot_backed : (arena : Pages) (m : Entries) (index : Index) (next : ℕ) (ms : List Mesh) (n place k addr len : ℕ) → IsIndex index.spans index.groups
    → IsPageHeap arena m index next ms → IsCovered (layout_of index) n place k addr len → AreBacked arena m addr len
slot_backed arena m index next ms n place k addr len sound paged covered =
    covered_backed _ _ _ _ _ _ _ _ _ (page_heap_orderly _ _ _ _ _ sound paged) paged.laid_out (pages_in_range _ _ _ _ _ sound paged) covered

-- the addresses of an object are backed
pub object_backed : (arena : Pages) (m : Entries) (index : Index) (next : ℕ) (ms : List Mesh) (addr len : ℕ) → IsIndex index.spans index.groups
    → IsPageHeap arena m index next ms → AreInObject (layout_of index) addr len → AreBacked arena m addr len
object_backed arena m index next ms addr len sound paged object =
    let placed = (page_heap_orderly arena m index next ms sound paged).placed object.n object.k object.slot object.filled in
    let start : slot_address ((layout_of index).first object.n placed.place) ((layout_of index).class object.n) object.k
    ≡ slot_address object.slot.member ((layout_of index).class object.n) object.k
    = ap (λ (f : ℕ). slot_address f ((layout_of index).class object.n) object.k) placed.first in
    slot_backed arena m index next ms object.n placed.place object.k addr len sound paged (record {
      member = placed.member;
      in_range = placed.below;
      low = omega (arith, object.at, start);
      high = omega (arith, object.at, object.fits, placed.fits, start);
    })

-- a store to an object, where no page is read-only, leaves a page heap
pub page_heap_store : (arena arena' : Pages) (m : Entries) (index : Index) (next : ℕ) (ms : List Mesh) (addr : ℕ) (bytes : List ℕ) → IsIndex index.spans index.groups
    → IsPageHeap arena m index next ms → AreInObject (layout_of index) addr (length bytes) → IsOpen m addr (length bytes) → Saves arena arena' m addr bytes
    → IsPageHeap arena' m index next ms
page_heap_store arena arena' m index next ms addr bytes sound paged object may saves =
    page_heap_bytes _ _ _ _ _ _ paged (store_laid _ _ _ arena _ object.n object.k object.off addr object.slot bytes
    (page_heap_orderly arena m index next ms sound paged) paged.laid_out object.filled object.fits object.at may saves) saves.same_free

-- pages, map and index with nothing in them are a page heap
pub page_heap_open : (arena : Pages) (m : Entries) (index : Index) → ((v : ℕ) → is_mapped m v ≡ false) → index.spans ≡ [] → index.groups ≡ []
    → IsPageHeap arena m index 1 []
unfolding groups_of
page_heap_open arena m index unmapped none ungrouped = grind arith
