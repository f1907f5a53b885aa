-- What a sweep does to a page heap.
use Rattle.std.specs.Prelude.{◌≡◌, ℕ, ◌<◌, false, Ok}
use Rattle.mesh_page_heap.specs.Indexes.{layout_of}
use Rattle.mesh_page_heap.specs.Layout.{IsPageOf, Layout}
use Rattle.mesh_page_heap.specs.StepChanges.{Keeps}
use Rattle.model_heap.specs.Table.{sweep}
use Rattle.mesh_pagemap.specs.Entries.{Entries, IsMapped, is_mapped}
use Rattle.mesh_page_heap.specs.PageHeap.{PageHeap, table_in}

-- the group's virtual pages are mapped and all different
pub record CanUnmap (l : Layout) (m : Entries) (n : ℕ) : Type 0 where
  pub group : 0 < l.members n
  pub mapped : (i v : ℕ) → IsPageOf l n i v → IsMapped m v
  pub once : (i j v : ℕ) → IsPageOf l n i v → IsPageOf l n j v → i ≡ j

-- an empty group was removed from the table, and `count` physical pages were freed. Its virtual pages are unmapped, and
-- each byte of a live object is unchanged
pub record HasGone (old new : PageHeap) (n count : ℕ) : Type 0 where
  pub table : sweep (table_in old) n ≡ Ok (record { count = count; table = table_in new })
  pub kept : Keeps (layout_of old.index) old.arena new.arena old.map new.map
  pub unmapped : (i v : ℕ) → IsPageOf (layout_of old.index) n i v → is_mapped new.map v ≡ false
