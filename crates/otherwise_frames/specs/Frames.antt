-- What a picture shows of a state in which meshes are made by a list of steps.
use Rattle.std.specs.Prelude.{◌≡◌, ℕ, ◌-◌, Bool, true, false, if◌then◌else◌, not, nat_eq, List, [], ◌∷◌, ◌++◌, Option, Some, None, filter, length, map, option_map, slice_get}
use Rattle.std.specs.List.{flat_map, list_any, range_with_len}
use Rattle.draw_picture.specs.declared.frame.Counts.{Counts}
use Rattle.draw_picture.specs.declared.frame.Frame.{Frame}
use Rattle.draw_picture.specs.declared.frame.Home.{Home}
use Rattle.draw_picture.specs.declared.frame.Member.{Member}
use Rattle.draw_picture.specs.declared.frame.Object.{Object as ObjectRow}
use Rattle.draw_picture.specs.declared.frame.RunningMesh.{RunningMesh}
use Rattle.mesh_pagemap.specs.declared.mapping.Mapping.{Mapping}
use Rattle.model_heap.specs.Table.{slot_address}
use Rattle.model_memory.specs.Memory.{Memory, Object, next_serial, object_of}
use Rattle.model_otherwise.specs.Heaps.{Group, Heap}
use Rattle.model_otherwise.specs.States.{Stage, State}
use Rattle.model_otherwise.specs.declared.page_map.Entry.{Entry}
use Rattle.model_otherwise.specs.declared.page_map.Protection.{Protection}
use Rattle.model_otherwise.specs.declared.page_map.Protection.TheVariants.{ReadWrite, ReadOnly, Hidden}
use Rattle.model_words.specs.Classes.{slots_of}
use Rattle.otherwise_frames.specs.Copies.{mesh_row}

-- an optional row as a list of at most one
abbrev pub listed : {A : Type 0} → Option A → List A
listed None = []
listed (Some row) = row ∷ []

-- the member of a group at a virtual page
abbrev pub member_of : Group → ℕ → Member
member_of g first = record { group = g.number; class = g.class; first = first }

-- the members of a group
abbrev pub group_members : Group → List Member
group_members g = map (member_of g) g.members

abbrev pub members_of : List Group → List Member
members_of groups = flat_map group_members groups

-- whether stores are blocked
abbrev pub is_held : Protection → Bool
is_held ReadWrite = false
is_held ReadOnly = true
is_held Hidden = true

-- whether loads are blocked
abbrev pub is_hidden : Protection → Bool
is_hidden ReadWrite = false
is_hidden ReadOnly = false
is_hidden Hidden = true

-- the mapping of a virtual page, if the page is mapped
abbrev pub lead_in : ℕ → Option (Option Entry) → Option Mapping
lead_in page None = None
lead_in page (Some None) = None
lead_in page (Some (Some entry)) = Some (record { virtual_page = page; physical_page = entry.page; read_only = is_held entry.protection })

abbrev pub lead_at : List (Option Entry) → ℕ → Option Mapping
lead_at entries page = lead_in page (slice_get entries page)

abbrev pub leads_in : List (Option Entry) → List Mapping
leads_in entries = flat_map (λ page. listed (lead_at entries page)) (range_with_len 0 (length entries))

-- the virtual page, if it is mapped and its loads are blocked
abbrev pub hidden_if : ℕ → Option (Option Entry) → Option ℕ
hidden_if page None = None
hidden_if page (Some None) = None
hidden_if page (Some (Some entry)) = if is_hidden entry.protection then Some page else None

abbrev pub hidden_at : List (Option Entry) → ℕ → Option ℕ
hidden_at entries page = hidden_if page (slice_get entries page)

abbrev pub hidden_in : List (Option Entry) → List ℕ
hidden_in entries = flat_map (λ page. listed (hidden_at entries page)) (range_with_len 0 (length entries))

-- the object of a serial, if it is live and at this address, which is that of a slot of a member
abbrev pub object_if : ℕ → ℕ → ℕ → ℕ → Option Object → Option ObjectRow
object_if member slot serial address None = None
object_if member slot serial address (Some x) =
    if nat_eq x.address address then Some (record { member = member; slot = slot; serial = serial; len = length x.bytes }) else None

abbrev pub object_at : Memory → ℕ → ℕ → ℕ → ℕ → Option ObjectRow
object_at m class member slot serial = object_if member slot serial (slot_address member class slot) (object_of m serial)

-- the object in a slot of a member of a class, if there is one
abbrev pub slot_objects : Memory → ℕ → ℕ → ℕ → List ObjectRow
slot_objects m class member slot = flat_map (λ serial. listed (object_at m class member slot serial)) (range_with_len 0 (next_serial m))

-- the objects of a member of a class
abbrev pub member_objects : Memory → ℕ → ℕ → List ObjectRow
member_objects m class member = flat_map (slot_objects m class member) (range_with_len 0 (slots_of class))

-- the objects of a group
abbrev pub group_objects : Memory → Group → List ObjectRow
group_objects m g = flat_map (member_objects m g.class) g.members

abbrev pub objects_of : Memory → List Group → List ObjectRow
objects_of m groups = flat_map (group_objects m) groups

-- a physical page of a group, at a place of the group's pages
abbrev pub home_of : List ℕ → Group → ℕ → ℕ → Home
home_of taken g place page = record { group = g.number; place = place; page = page; taken = list_any (nat_eq page) taken }

abbrev pub home_at : List ℕ → Group → ℕ → Option Home
home_at taken g place = option_map (home_of taken g place) (slice_get g.pages place)

abbrev pub group_homes : List ℕ → Group → List Home
group_homes taken g = flat_map (λ place. listed (home_at taken g place)) (range_with_len 0 (length g.pages))

-- whether the physical page is no group's
abbrev pub is_lost : List Group → ℕ → Bool
is_lost groups page = not (list_any (λ g. list_any (nat_eq page) g.pages) groups)

-- a page that is taken and no group's. It gets a number that is no group's
abbrev pub lost_home : ℕ → Home
lost_home page = record { group = 4294967295; place = 0; page = page; taken = true }

abbrev pub lost_homes : Heap → List Home
lost_homes heap = map lost_home (filter (is_lost heap.groups) heap.taken)

-- the physical pages of groups, and those that are taken and no group's
abbrev pub homes_of : Heap → List Home
homes_of heap = flat_map (group_homes heap.taken) heap.groups ++ lost_homes heap

-- the running meshes
abbrev pub meshes_of : Memory → Heap → List Stage → List RunningMesh
meshes_of m heap stages = flat_map (λ mesher. listed (mesh_row m heap.spots (slice_get stages mesher))) (range_with_len 0 (length stages))

-- the page counts of a heap
abbrev pub counts_of : Heap → Counts
counts_of heap = record {
  mapped = length (leads_in heap.entries);
  taken = length heap.taken;
  saved = length (leads_in heap.entries) - length heap.taken;
}

-- the frame shows the state. Nothing is marked as wrong
pub record IsFrameOf (s : State) (f : Frame) : Type 0 where
  pub members : f.members.items ≡ members_of s.heap.groups
  pub leads : f.leads.items ≡ leads_in s.heap.entries
  pub objects : f.objects.items ≡ objects_of s.memory s.heap.groups
  pub homes : f.homes.items ≡ homes_of s.heap
  pub meshes : f.meshes.items ≡ meshes_of s.memory s.heap s.stages
  pub hidden : f.hidden.items ≡ hidden_in s.heap.entries
  pub mark : f.mark ≡ None
  pub counts : f.counts ≡ counts_of s.heap
