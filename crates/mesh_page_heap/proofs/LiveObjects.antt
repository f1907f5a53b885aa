-- What always holds of live objects, their places and pages, and of stores.
use Rattle.std.proofs.Common.{zero, suc, Bool, ◌+◌, ◌<◌, ◌≤◌, ◌≡◌, ◌≢◌, ℕ, ◌-◌, ◌/◌, true, false, nat_eq, List, Some, ap, refl, sym, ◌∙◌, arith}
use Rattle.std.specs.List.{list_any, range_with_len}
use Rattle.std.proofs.lemmas.List.Folds.{list_any_at}
use Rattle.std.proofs.lemmas.List.FromFn.{get_or-range_with_len, length-range_with_len}
use Rattle.mesh_arena.specs.Pages.{Pages, IsTaken}
use Rattle.model_heap.specs.Mesh.{is_blocked, read_only_pages}
use Rattle.model_heap.specs.Places.{Place, Record, place_of, records_of, IsIn, record_with}
use Rattle.model_heap.specs.Table.{Mesh, Table, slot_address}
use Rattle.mesh_pagemap.specs.Entries.{Entries, is_read_only, page_of}
use Rattle.mesh_spans.specs.Index.{Index, IsIndex}
use Rattle.mesh_store.specs.Places.{IsBlocked, IsOpen}
use Rattle.mesh_page_heap.specs.PageHeapInvariant.{IsPageHeap, targets_of}
use Rattle.mesh_page_heap.specs.Indexes.{layout_of, table_with}
use Rattle.mesh_page_heap.specs.Layout.{IsCovered, IsLaidOut, IsOrderly, Layout, Stage}
use Rattle.mesh_page_heap.specs.MeshLayouts.{stage_of}
use Rattle.mesh_page_heap.proofs.PageHeapSteps.{page_heap_orderly}
use Rattle.mesh_page_heap.proofs.Homes.{byte_page, covered_byte, live_taken, one_place}
use Rattle.mesh_page_heap.proofs.Meaning.{live_at, record_live}
use Rattle.mesh_page_heap.proofs.ReadOnly.{read_only_is}
use Rattle.mesh_page_heap.proofs.Stores.{calm_writable}

module _ (arena : Pages) (m : Entries) (index : Index) (next : ℕ) (ms : List Mesh) (sound : IsIndex index.spans index.groups)
    (paged : IsPageHeap arena m index next ms) where
  -- no two addresses of live objects have one place
  pub places_apart : (i j x y : ℕ) (r q : Record) → record_with i (records_of (table_with arena index next ms)) ≡ Some r
      → record_with j (records_of (table_with arena index next ms)) ≡ Some q → IsIn r x → IsIn q y → x ≢ y
      → place_of (targets_of m) x ≢ place_of (targets_of m) y
  places_apart i j x y r q found found' in_r in_q other same =
      let t : Table = table_with arena index next ms in
      let a = record_live index t i r paged.sound refl found in
      let b = record_live index t j q paged.sound refl found' in
      other (one_place (layout_of index) (stage_of (layout_of index) ms) m arena a.n a.k (x - r.address) x b.n b.k (y - q.address) y a.slot b.slot
      (page_heap_orderly arena m index next ms sound paged) paged.laid_out (live_at index r x a in_r) (live_at index q y b in_q)
      (ap (λ (p : Place). p.page) same) (ap (λ (p : Place). p.offset) same))

  -- the page of each live byte is taken
  pub page_taken : (serial x : ℕ) (r : Record) → record_with serial (records_of (table_with arena index next ms)) ≡ Some r → IsIn r x
      → IsTaken arena (page_of m (x / 4096))
  page_taken serial x r found within =
      let a = record_live _ _ _ _ paged.sound refl found in
      (live_taken _ _ _ _ a.n a.k _ _ a.slot (page_heap_orderly _ _ _ _ _ sound paged) paged.laid_out (live_at _ r _ a within)).1

  -- the read-only pages are those of the meshes
  pub read_only : (v : ℕ) → is_read_only m v ≡ list_any (nat_eq v) (read_only_pages (table_with arena index next ms))
  read_only v = read_only_is index (table_with arena index next ms) sound paged.sound refl m arena paged.laid_out v

  any_false : (test : ℕ → Bool) (a n : ℕ) → ((x : ℕ) → a ≤ x → x < a + n → test x ≡ false) → list_any test (range_with_len a n) ≡ false
  any_false test a zero none = refl
  any_false test a (suc n) none = rw (none a (omega arith) (omega arith))
      (any_false test (a + 1) n (λ x low high. none x (omega (arith, low)) (omega (arith, high))))

  any_true : (test : ℕ → Bool) (a n x : ℕ) → a ≤ x → x < a + n → test x ≡ true → list_any test (range_with_len a n) ≡ true
  any_true test a n x low high pass = list_any_at test (range_with_len a n) (x - a) 0 (omega (arith, length-range_with_len a n, low, high))
      (ap test (let at : a + (x - a) ≡ x = omega (arith, low) in get_or-range_with_len a n (x - a) 0 (omega (arith, low, high)) ∙ at) ∙ pass)

  -- a store that touches no read-only page is not blocked in the table's sense
  pub open_is : (addr len : ℕ) → IsOpen m addr len → is_blocked (table_with arena index next ms) addr len ≡ false
  open_is addr len may = any_false (λ x. list_any (nat_eq (x / 4096)) (read_only_pages (table_with arena index next ms))) addr len
      (λ x low high. sym (read_only (x / 4096)) ∙ may.each x low high)

  pub blocked_is : (addr len : ℕ) → IsBlocked m addr len → is_blocked (table_with arena index next ms) addr len ≡ true
  blocked_is addr len blocked = any_true _ _ _ _ blocked.from blocked.below (sym (read_only _) ∙ blocked.read_only)

-- no address in a slot of a group that is no source is in a read-only page
pub calm_open : (l : Layout) (f : ℕ → Stage) (m : Entries) (arena : Pages) (n place k addr len : ℕ) → IsOrderly l f → IsLaidOut l f m arena → (f n).into ≡ n
    → IsCovered l n place k addr len → IsOpen m addr len
calm_open l f m arena n place k addr len orderly laid calm covered = record {
  each = λ x low high.
      let has = byte_page l f n place k (x - slot_address (l.first n place) (l.class n) k) x orderly (covered_byte l n place k addr len x covered low high) in
      calm_writable l f m arena n has.i (x / 4096) orderly laid calm has.page;
}
