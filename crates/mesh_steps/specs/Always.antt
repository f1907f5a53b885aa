-- What always holds of a heap's live objects, of their places and pages, and of the heap's read-only pages.
use Rattle.std.specs.Prelude.{◌≡◌, ◌≢◌, ℕ, true, nat_eq, Some}
use Rattle.std.specs.List.{list_any}
use Rattle.mesh_arena.specs.Pages.{IsTaken}
use Rattle.model_heap.specs.Mesh.{read_only_pages}
use Rattle.model_heap.specs.Places.{Record, holds, place_of, IsIn, record_with}
use Rattle.mesh_pagemap.specs.Entries.{is_read_only}
use Rattle.mesh_page_heap.specs.Indexes.{layout_of}
use Rattle.mesh_page_heap.specs.Layout.{IsLaidOut}
use Rattle.mesh_page_heap.specs.MeshLayouts.{stage_of}
use Rattle.mesh_page_heap.specs.PageHeapInvariant.{targets_of}
use Rattle.mesh_steps.specs.Heap.{Heap, arena_of, index_of, live_records, map_of, table_of}

-- no two live objects have an address in common
abbrev pub HasObjectsApart : Heap → Type 0
HasObjectsApart h = (i j x : ℕ) (r q : Record) → record_with i (live_records h) ≡ Some r → record_with j (live_records h) ≡ Some q → i ≢ j
    → IsIn r x → IsIn q x → ⊥

-- two different addresses of live objects, in one object or in two, have different places
abbrev pub HasPlacesApart : Heap → Type 0
HasPlacesApart h = (i j x y : ℕ) (r q : Record) → record_with i (live_records h) ≡ Some r → record_with j (live_records h) ≡ Some q
    → IsIn r x → IsIn q y → x ≢ y → place_of (targets_of (map_of h)) x ≢ place_of (targets_of (map_of h)) y

-- each physical page that holds a live object is taken, so no free page holds one
abbrev pub HasHeldPagesTaken : Heap → Type 0
HasHeldPagesTaken h = (serial page : ℕ) (r : Record) → record_with serial (live_records h) ≡ Some r → holds (targets_of (map_of h)) page r ≡ true
    → IsTaken (arena_of h) page

-- the read-only virtual pages are exactly those that the progress of the running meshes makes read-only
abbrev pub HasReadOnlyOfMeshes : Heap → Type 0
HasReadOnlyOfMeshes h = (v : ℕ) → is_read_only (map_of h) v ≡ list_any (nat_eq v) (read_only_pages (table_of h))

-- layout, page map and arena agree with the running meshes
abbrev pub LiesAsMeshesHaveIt : Heap → Type 0
LiesAsMeshesHaveIt h = IsLaidOut (layout_of (index_of h)) (stage_of (layout_of (index_of h)) (table_of h).meshes) (map_of h) (arena_of h)
