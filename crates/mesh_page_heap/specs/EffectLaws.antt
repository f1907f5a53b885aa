-- A step of a mesh has one effect: the memory before the step determines the memory after it.
use Rattle.std.specs.Prelude.{◌≡◌, ℕ}
use Rattle.mesh_arena.specs.Pages.{IsTaken, Pages, is_taken}
use Rattle.mesh_page_heap.specs.Effects.{HasEffect}
use Rattle.mesh_page_heap.specs.PageHeapInvariant.{bytes_in, targets_of}
use Rattle.model_heap.specs.Places.{Place}
use Rattle.model_heap.specs.Table.{Mesh}
use Rattle.mesh_pagemap.specs.Entries.{Entries}
use Rattle.mesh_spans.specs.Index.{Index}

-- each virtual page leads to the same target in both page maps, both arenas have the same taken pages, and each byte of
-- a taken page is equal in both
pub record AreSame (a b : Pages) (m n : Entries) : Type 0 where
  pub targets : (v : ℕ) → targets_of n v ≡ targets_of m v
  pub taken : (page : ℕ) → is_taken b page ≡ is_taken a page
  pub bytes : (place : Place) → IsTaken a place.page → IsTaken b place.page → bytes_in b place ≡ bytes_in a place

-- if two outcomes both have the effect of one step, they are the same: a step has no effect but the specified one
abbrev pub EffectIsOne : Type 0
EffectIsOne = (index : Index) (mesh : Mesh) (arena a b : Pages) (m k n : Entries) → HasEffect index mesh arena a m k → HasEffect index mesh arena b m n
    → AreSame a b k n
