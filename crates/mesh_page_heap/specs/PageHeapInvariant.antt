-- What holds of physical pages, page map, span index and meshes together.
use Rattle.std.specs.Prelude.{◌≡◌, ℕ, ◌≤◌, false, List}
use Rattle.std.specs.List.{list_any}
use Rattle.mesh_arena.specs.Pages.{Pages, byte_at}
use Rattle.model_heap.specs.Places.{Place, Target}
use Rattle.model_heap.specs.Sound.{IsSound}
use Rattle.model_heap.specs.Table.{Mesh, takes_part}
use Rattle.mesh_pagemap.specs.Entries.{Entries, is_mapped, is_read_only, page_of}
use Rattle.mesh_spans.specs.Groups.{is_closed}
use Rattle.mesh_spans.specs.Index.{AreUnused, Index}
use Rattle.mesh_page_heap.specs.Indexes.{layout_of, table_with}
use Rattle.mesh_page_heap.specs.Layout.{IsLaidOut}
use Rattle.mesh_page_heap.specs.MeshLayouts.{stage_of}

-- no virtual page from `next_page` on is mapped or in a span. Layout, page map and arena agree with the running meshes,
-- exactly the groups of running meshes are closed, and the table is sound
pub record IsPageHeap (arena : Pages) (map : Entries) (index : Index) (next_page : ℕ) (meshes : List Mesh) : Type 0 where
  pub some : 1 ≤ next_page
  pub most : next_page ≤ 65536
  pub unused : AreUnused index next_page
  pub fresh : (v : ℕ) → next_page ≤ v → is_mapped map v ≡ false
  pub laid_out : IsLaidOut (layout_of index) (stage_of (layout_of index) meshes) map arena
  pub flags : (n : ℕ) → is_closed index n ≡ list_any (takes_part n) meshes
  pub sound : IsSound (table_with arena index next_page meshes)

-- the target of each virtual page in a page map: its physical page, and whether it is read-only
abbrev pub targets_of : Entries → ℕ → Target
targets_of m v = record { page = page_of m v; read_only = is_read_only m v }

-- the byte of an arena at each place
abbrev pub bytes_in : Pages → Place → ℕ
bytes_in a place = byte_at a place.page place.offset
