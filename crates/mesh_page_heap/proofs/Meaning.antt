-- Where live bytes stay and the table is tied to the same memory, a heap means what it meant.
use Rattle.std.proofs.Common.{◌≡◌, ◌≢◌, ℕ, ◌+◌, ◌-◌, ◌/◌, ◌%◌, ◌<◌, ◌≤◌, List, [], find, Option, Some, None, length, ap, subst, sym, ◌∙◌, arith, ◌⊎◌, inl, inr}
use Rattle.std.proofs.lemmas.Bool.Decides.{leb_tells}
use Rattle.std.proofs.lemmas.Option.{get_or_from_slice_get}
use Rattle.mesh_arena.specs.Pages.{Pages, byte_at}
use Rattle.model_heap.proofs.Meanings.{means_same, store_means}
use Rattle.model_heap.proofs.Records.{record_slot, tied_below}
use Rattle.model_heap.specs.Places.{Record, meaning, object_at, records_of, IsIn, record_with}
use Rattle.model_memory.specs.Plain.{stored}
use Rattle.model_heap.specs.Sound.{IsSound, IsTied}
use Rattle.model_heap.specs.Table.{Group, Slot, Table, has_number, slot_address}
use Rattle.mesh_pagemap.specs.Entries.{Entries, page_of}
use Rattle.mesh_spans.specs.Groups.{groups_of}
use Rattle.mesh_spans.specs.Index.{Index}
use Rattle.mesh_store.specs.Places.{IsOpen, Saves, byte_of as stored_byte_of}
use Rattle.mesh_page_heap.specs.Indexes.{layout_of}
use Rattle.mesh_page_heap.specs.Layout.{IsLaidOut, IsLiveAt, IsOrderly, Stage}
use Rattle.mesh_page_heap.specs.PageHeapInvariant.{bytes_in, targets_of}
use Rattle.mesh_page_heap.specs.StepChanges.{Keeps}
use Rattle.mesh_page_heap.proofs.Groups.{table_entry}
use Rattle.mesh_page_heap.proofs.Stores.{store_others}

-- the slot of an index that a record is of
pub record HasLive (index : Index) (r : Record) : Type 0 where
  pub n : ℕ
  pub k : ℕ
  pub slot : Slot
  pub filled : (layout_of index).slot n k ≡ Some slot
  pub address : slot_address slot.member ((layout_of index).class n) k ≡ r.address
  pub len : slot.len ≡ r.len

pub record_live : (index : Index) (t : Table) (serial : ℕ) (r : Record) → IsSound t → t.groups ≡ groups_of index
    → record_with serial (records_of t) ≡ Some r → HasLive index r
record_live index t serial r sound groups found =
    let of = (record_slot t serial r sound found).1 in
    let e = table_entry index of.filled.number of.filled.group (subst (λ (gs : List Group). find (has_number of.filled.number) gs ≡ Some of.filled.group) groups of.filled.there) in
    let slots : of.filled.group.slots ≡ e.entry.slots = ap (λ (x : Group). x.slots) e.same in
    record {
      n = of.filled.number;
      k = of.k;
      slot = of.slot;
      filled = rw (e.there, ← slots) (get_or_from_slice_get of.filled.group.slots of.k (Some of.slot) None of.filled.filled);
      address = rw (e.there, ← (ap (λ (x : Group). x.class) e.same)) (ap (λ (x : Record). x.address) (sym of.is));
      len = ap (λ (x : Record). x.len) (sym of.is);
    }

-- an address of a record's object is one of a live byte
pub live_at : (index : Index) (r : Record) (x : ℕ) → (h : HasLive index r) → IsIn r x → IsLiveAt (layout_of index) h.n h.k (x - r.address) x h.slot
live_at index r x h within = grind arith

-- a transition of the table that leaves it tied, while live bytes stay, leaves what the heap means
pub means_kept : (next : ℕ) (index : Index) (t u : Table) (m m' : Entries) (arena arena' : Pages) (roots : List (Option ℕ)) → IsSound t → t.groups ≡ groups_of index
    → ((serial : ℕ) → record_with serial (records_of u) ≡ record_with serial (records_of t)) → Keeps (layout_of index) arena arena' m m'
    → meaning next (records_of u) (targets_of m') (bytes_in arena') roots ≡ meaning next (records_of t) (targets_of m) (bytes_in arena) roots
means_kept next index t u m m' arena arena' roots sound groups same keeps =
    means_same next (records_of t) (records_of u) (targets_of m) (targets_of m') (bytes_in arena) (bytes_in arena') roots same
    (λ serial x r found within. let h = record_live index t serial r sound groups found in
    keeps.each h.n h.k (x - r.address) x h.slot (live_at index r x h within))

-- bytes stored in a part of a live object, where no page is read-only, are stored in the plain memory's object
pub store_means_here : (next : ℕ) (index : Index) (t : Table) (f : ℕ → Stage) (m : Entries) (arena arena' : Pages) (r : Record) (off : ℕ) (bytes : List ℕ)
    → IsSound t → t.groups ≡ groups_of index → IsTied (meaning next (records_of t) (targets_of m) (bytes_in arena) []) t
    → IsOrderly (layout_of index) f → IsLaidOut (layout_of index) f m arena → record_with r.serial (records_of t) ≡ Some r
    → ((serial x : ℕ) (q : Record) → record_with serial (records_of t) ≡ Some q → serial ≢ r.serial → IsIn q x → IsIn r x → ⊥)
    → off + length bytes ≤ r.len → IsOpen m (r.address + off) (length bytes) → Saves arena arena' m (r.address + off) bytes
    → meaning next (records_of t) (targets_of m) (bytes_in arena') []
    ≡ stored (meaning next (records_of t) (targets_of m) (bytes_in arena) []) (record { serial = r.serial; object = object_at (targets_of m) (bytes_in arena) r }) off bytes
unfolding stored_byte_of
store_means_here next index t f m arena arena' r off bytes sound groups tied orderly laid found apart fits may saves =
    store_means next (records_of t) (targets_of m) (bytes_in arena) (bytes_in arena') [] r off bytes below found fits saves.inside
    (λ x within outside. kept r.serial x r found within outside)
    (λ serial x q is other within. kept serial x q is within (elim (leb_tells (r.address + off) x) [
      | inr before ↦ inl before.1
      | inl from ↦ elim (leb_tells (r.address + off + length bytes) x) [
        | inl past ↦ inr past.1
        | inr inside ↦ absurd (apart serial x q is other within (let a = from.1 in omega (arith, a), let b = inside.1 in omega (arith, b, fits)))
      ]
    ]))
  where
    h : HasLive index r
    h = record_live index t r.serial r sound groups found

    below : r.serial < next
    below = elim (leb_tells next r.serial) [
      | inr less ↦ less.1
      | inl past ↦ absurd (let none = tied_below next t (targets_of m) (bytes_in arena) [] sound tied r.serial past.1 in
          let two : None ≡ Some r = sym none ∙ found in cc two)
    ]

    kept : (serial x : ℕ) (q : Record) → record_with serial (records_of t) ≡ Some q → IsIn q x → (x < r.address + off) ⊎ (r.address + off + length bytes ≤ x)
        → byte_at arena' (page_of m (x / 4096)) (x % 4096) ≡ byte_at arena (page_of m (x / 4096)) (x % 4096)
    kept serial x q is within outside =
        let other = record_live index t serial q sound groups is in
        store_others (layout_of index) f m arena arena' h.n h.k off (r.address + off) h.slot bytes orderly laid h.filled
        (let len = h.len in omega (arith, fits, len)) (let address = h.address in omega (arith, address)) may saves
        other.n other.k (x - q.address) x other.slot (live_at index q x other within) outside
