-- The layout of an index, and the table of a page heap with running meshes.
use Rattle.std.specs.Prelude.{ℕ, List, [], Option, Some, None, length, slice_index, slice_index_or}
use Rattle.mesh_arena.specs.Pages.{Pages, free_count}
use Rattle.model_heap.specs.Table.{Mesh, Slot, Table}
use Rattle.mesh_spans.specs.Groups.{groups_of}
use Rattle.mesh_spans.specs.Index.{GroupEntry, Index, group_at, span_at}
use Rattle.mesh_page_heap.specs.Layout.{Layout}

-- the class of a group, or 0 if there is no group
abbrev pub class_in : Option GroupEntry → ℕ
class_in None = 0
class_in (Some group) = group.class

-- the spans that are members of a group
abbrev pub members_in : Option GroupEntry → List ℕ
members_in None = []
members_in (Some group) = group.members

-- the physical pages of a group
abbrev pub pages_in : Option GroupEntry → List ℕ
pages_in None = []
pages_in (Some group) = group.pages

-- the contents of a group's slots
abbrev pub slots_in : Option GroupEntry → List (Option Slot)
slots_in None = []
slots_in (Some group) = group.slots

-- the layout of an index
abbrev pub layout_of : Index → Layout
layout_of index = record {
  class = λ n. class_in (group_at index.groups n);
  members = λ n. length (members_in (group_at index.groups n));
  first = λ n place. (span_at index.spans (slice_index (members_in (group_at index.groups n)) place)).first;
  page = λ n j. slice_index (pages_in (group_at index.groups n)) j;
  slot = λ n k. slice_index_or (slots_in (group_at index.groups n)) k None;
}

-- the table of an arena, an index, a next virtual page and running meshes
abbrev pub table_with : Pages → Index → ℕ → List Mesh → Table
table_with arena index next_page meshes = record {
  next_span = length index.spans;
  next_page = next_page;
  free_pages = free_count arena;
  meshes = meshes;
  groups = groups_of index;
}
