-- Arena and page map as the memory under a table, and what the steps of a mesh change in them.
use Rattle.std.specs.Prelude.{◌≡◌, ℕ, not, find, Some}
use Rattle.mesh_arena.specs.Pages.{IsTaken, Pages, is_taken}
use Rattle.model_heap.specs.Places.{Place}
use Rattle.model_heap.specs.StepEffects.{Sides, Under, step_effect}
use Rattle.model_heap.specs.Table.{Mesh, has_number}
use Rattle.mesh_pagemap.specs.Entries.{Entries}
use Rattle.mesh_spans.specs.Groups.{groups_of}
use Rattle.mesh_spans.specs.Index.{Index, group_at}
use Rattle.mesh_page_heap.specs.Indexes.{pages_in}
use Rattle.mesh_page_heap.specs.PageHeapInvariant.{bytes_in, targets_of}

-- arena and page map, as the memory under a table
abbrev pub under_of : Pages → Entries → Under
under_of arena m = record { targets = targets_of m; bytes = bytes_in arena; is_free = λ page. not (is_taken arena page) }

-- arena and page map agree with the memory under a table, apart from the bytes of free pages
pub record IsUnder (arena : Pages) (m : Entries) (u : Under) : Type 0 where
  pub targets : (v : ℕ) → targets_of m v ≡ u.targets v
  pub bytes : (place : Place) → IsTaken arena place.page → bytes_in arena place ≡ u.bytes place
  pub is_free : (page : ℕ) → not (is_taken arena page) ≡ u.is_free page

-- the sides of a mesh are its source group, and the physical pages of its source and its destination
pub record AreSides (index : Index) (mesh : Mesh) (sides : Sides) : Type 0 where
  pub source : find (has_number mesh.source) (groups_of index) ≡ Some sides.source
  pub from : sides.from ≡ pages_in (group_at index.groups mesh.source)
  pub into : sides.into ≡ pages_in (group_at index.groups mesh.destination)

-- the next step of a mesh had its specified effect on arena and page map, and no other
pub record HasEffect (index : Index) (mesh : Mesh) (arena arena' : Pages) (m m' : Entries) : Type 0 where
  pub sides : Sides
  pub sides_are : AreSides index mesh sides
  pub under : IsUnder arena' m' (step_effect sides mesh.progress (under_of arena m))
