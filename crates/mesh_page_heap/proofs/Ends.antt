-- The first page heap, a new object, and the ends of meshes that moved nothing.
use Rattle.std.proofs.Common.{◌≡◌, ◌≢◌, ℕ, ◌+◌, ◌≤◌, Bool, false, find, List, Some, length, ap, refl, sym, ◌∙◌, arith}
use Rattle.mesh_arena.specs.Pages.{Pages}
use Rattle.model_heap.specs.Mesh.{with_progress, without_mesh}
use Rattle.model_heap.specs.Sound.{IsSound}
use Rattle.model_heap.specs.Table.{Mesh, Slot, Table, Unwinding, slot_address}
use Rattle.mesh_pagemap.specs.Entries.{Entries, Protects, is_mapped, prot_of}
use Rattle.mesh_spans.specs.Groups.{is_closed}
use Rattle.mesh_spans.specs.Index.{AreUnused, Index, IsIndex, with_entry}
use Rattle.mesh_store.specs.Places.{Saves}
use Rattle.mesh_page_heap.specs.PageHeapInvariant.{IsPageHeap}
use Rattle.mesh_page_heap.specs.Indexes.{layout_of, table_with}
use Rattle.mesh_page_heap.specs.Layout.{IsCovered, IsLaidOut, IsOrderly, IsPageOf, Layout}
use Rattle.mesh_page_heap.specs.MeshLayouts.{mesh_from, stage_of}
use Rattle.mesh_page_heap.specs.StepChanges.{Keeps}
use Rattle.mesh_page_heap.proofs.Changes.{SameGroups, index_alike, laid_stages, open_calm, stage_same}
use Rattle.mesh_page_heap.proofs.PageHeapChanges.{page_heap_bytes, page_heap_put}
use Rattle.mesh_page_heap.proofs.PageHeapSteps.{flags_ended, page_heap_orderly}
use Rattle.mesh_page_heap.proofs.MapSteps.{end_laid}
use Rattle.mesh_page_heap.proofs.MeshList.{from_found, progress_moves, without_moves}
use Rattle.mesh_page_heap.proofs.LiveObjects.{calm_open}
use Rattle.mesh_page_heap.proofs.Stores.{free_laid, store_laid}
use Rattle.mesh_page_heap.proofs.Whole.{unwind_step}

-- a new object of zeros in a vacant slot of an open group: the slot is filled, and the bytes at its addresses are
-- stored
pub page_heap_make : (arena arena' : Pages) (m : Entries) (old new : Index) (next : ℕ) (ms : List Mesh) (n k place : ℕ) (slot : Slot) (bytes : List ℕ)
    → IsIndex old.spans old.groups → IsIndex new.spans new.groups → IsPageHeap arena m old next ms → new.spans ≡ old.spans
    → new.groups ≡ with_entry old.groups n k (Some slot) → ((i : ℕ) → is_closed new i ≡ is_closed old i) → is_closed old n ≡ false
    → IsSound (table_with arena new next ms) → (layout_of new).slot n k ≡ Some slot → length bytes ≤ slot.len
    → IsCovered (layout_of new) n place k (slot_address slot.member ((layout_of new).class n) k) (length bytes)
    → Saves arena arena' m (slot_address slot.member ((layout_of new).class n) k) bytes → IsPageHeap arena' m new next ms
page_heap_make arena arena' m old new next ms n k place slot bytes index index' paged spans groups closed may sound filled fits covered saves =
    let put = page_heap_put _ _ _ _ _ _ _ _ _ index paged spans groups closed may sound in
    let orderly = page_heap_orderly _ _ _ _ _ index' put in
    let calm = open_calm (layout_of new) _ _ (sym (put.flags n) ∙ closed n ∙ may) in
    let addr : ℕ = slot_address slot.member ((layout_of new).class n) k in
    page_heap_bytes _ _ _ _ _ _ put (store_laid _ _ _ arena _ n k 0 addr slot bytes orderly put.laid_out filled (omega (arith, fits))
    (let zeroth : addr + 0 ≡ addr = omega arith in zeroth) (calm_open _ _ _ _ _ _ _ _ _ orderly put.laid_out calm.0 covered) saves) saves.same_free

-- the last unprotect of a cancelled mesh
pub unwind_last : (l : Layout) (t : Table) (this : Mesh) (m m' : Entries) (arena : Pages) (q u v : ℕ) → IsSound t → IsOrderly l (stage_of l t.meshes)
    → IsLaidOut l (stage_of l t.meshes) m arena → mesh_from this.source t.meshes ≡ Some this → this.progress ≡ Unwinding q u → u + 1 ≡ q → IsPageOf l this.source u v
    → Protects m m' v (prot_of false) → IsLaidOut l (stage_of l (without_mesh t.meshes this)) m' arena × Keeps l arena arena m m'
unwind_last l t this m m' arena q u v sound orderly laid found at last page protects =
    let ms : List Mesh = t.meshes in
    let both = unwind_step l ms this m arena orderly laid found m' q u v at page protects in
    let to_mid = progress_moves l ms this (Unwinding q (u + 1)) found in
    let ends = without_moves t l ms this sound.meshes sound.one_a_class found in (
      end_laid l (stage_of l (with_progress ms this (Unwinding q (u + 1)))) (stage_of l (without_mesh ms this)) m' arena this.source both.0
          (rw to_mid.here (omega (arith, last))) (rw to_mid.here refl) (rw to_mid.here refl)
          (record { here = ends.here; others = λ n other. ends.others n other ∙ sym (to_mid.others n other) }),
      both.1,
    )

-- a mesh that has ended: the index opens its two groups
pub page_heap_ended : (arena : Pages) (m m' : Entries) (old new : Index) (next : ℕ) (ms : List Mesh) (test : Mesh → Bool) (this : Mesh) → IsPageHeap arena m old next ms
    → find test ms ≡ Some this → SameGroups old new → ((n k : ℕ) (slot : Slot) → (layout_of new).slot n k ≡ Some slot → (layout_of old).slot n k ≡ Some slot)
    → ((n : ℕ) → n ≢ this.source → n ≢ this.destination → is_closed new n ≡ is_closed old n) → is_closed new this.source ≡ false
    → is_closed new this.destination ≡ false → ((v : ℕ) → is_mapped m' v ≡ is_mapped m v)
    → IsLaidOut (layout_of old) (stage_of (layout_of old) (without_mesh ms this)) m' arena
    → IsSound (table_with arena new next (without_mesh ms this)) → IsPageHeap arena m' new next (without_mesh ms this)
page_heap_ended arena m m' old new next ms test this paged found same slots closed closed_s closed_d mapped laid sound =
    let t : Table = table_with arena old next ms in
    let from = from_found t test ms this found paged.sound.meshes paged.sound.one_a_class in
    let unused : AreUnused new next = rw same.spans paged.unused in
    let fresh : (v : ℕ) → next ≤ v → is_mapped m' v ≡ false = λ v high. mapped v ∙ paged.fresh v high in
    let laid_out = laid_stages (layout_of new) (stage_of (layout_of old) (without_mesh ms this)) (stage_of (layout_of new) (without_mesh ms this)) m' arena
    (λ n. stage_same (layout_of old) (layout_of new) (without_mesh ms this) n (same.class n) (ap (λ (xs : List ℕ). length xs) (same.members n)))
    (free_laid (layout_of old) (layout_of new) (stage_of (layout_of old) (without_mesh ms this)) m' arena laid (index_alike old new same) slots) in
    let flags = flags_ended t old new this paged.sound from paged.flags closed closed_s closed_d in assumption
