-- What a heap shows: members and objects as in the table, where virtual pages lead, and the pages of each group.
use Rattle.std.specs.Prelude.{ℕ, ◌+◌, ◌-◌, ◌*◌, Option, Some, None, slice_get, slice_index_or}
use Rattle.std.specs.Option.{option_map}
use Rattle.std.specs.FinMap as map
use Rattle.model_words.specs.Classes.{slots_of}
use Rattle.model_heap.specs.Mesh.{page_count}
use Rattle.model_heap.specs.Table.{Group, Made, Mesh, Progress, Slot, Unwinding}
use Rattle.mesh_page_heap.specs.Indexes.{pages_in}
use Rattle.mesh_pagemap.specs.Entries.{Entries, reads_only}
use Rattle.mesh_spans.specs.Index.{Index, group_at, named_in}
use Rattle.mesh_pagemap.specs.declared.mapping.Mapping.{Mapping}

-- the first virtual page of the member at a place of a group
abbrev pub member_at : Option Group → ℕ → Option ℕ
member_at None place = None
member_at (Some group) place = slice_get group.members place

-- serial and length of the object in a slot, if the object is in this member
abbrev pub object_of : Option ℕ → Option Slot → Option (ℕ × ℕ)
object_of None slot = None
object_of (Some member) slot = named_in member slot

-- serial and length of the object in slot `k` of a group, if the object is in the member at this place
abbrev pub object_at : Option Group → ℕ → ℕ → Option (ℕ × ℕ)
object_at None place k = None
object_at (Some group) place k = object_of (slice_get group.members place) (slice_index_or group.slots k None)

-- the mapping of a virtual page, if it is mapped
abbrev pub lead_at : Entries → ℕ → Option Mapping
lead_at m v = option_map (λ entry. record { virtual_page = v; physical_page = entry.0; read_only = reads_only entry.1 }) (map.get m v)

-- physical page `i` of a group, if it has one
abbrev pub home_at : Index → ℕ → ℕ → Option ℕ
home_at index n i = slice_get (pages_in (group_at index.groups n)) i

-- how many physical pages of a group the mesh from it has released at this progress
abbrev pub released_after : Group → Progress → ℕ
released_after group (Made d) = d - (3 * page_count group + slots_of group.class)
released_after group (Unwinding q u) = 0

-- how many physical pages of a group the mesh from it has released: 0 if no mesh runs from the group
abbrev pub released_of : Option Group → Option Mesh → ℕ
released_of None mesh = 0
released_of (Some group) None = 0
released_of (Some group) (Some mesh) = released_after group mesh.progress
