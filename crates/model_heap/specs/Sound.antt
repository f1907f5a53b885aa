-- What always holds within a table, and what ties a table to the reference memory.
use Rattle.std.specs.Prelude.{◌≡◌, ℕ, ◌+◌, ◌*◌, ◌<◌, ◌≤◌, false, nat_eq, if◌then◌else◌, List, [], ◌∷◌, Option, Some, IsSome, length, slice_get}
use Rattle.std.specs.List.{flat_map}
use Rattle.model_words.specs.Classes.{row_of, pages_of, slots_of}
use Rattle.model_memory.specs.Memory.{Object, Memory, object_of}
use Rattle.model_heap.specs.Mesh.{virtual_pages, page_count, do_overlap}
use Rattle.model_heap.specs.Table.{Slot, Group, Progress, Made, Unwinding, Mesh, Table, group_of, slot_address}

-- how often a number is in a list
abbrev pub times_in : ℕ → List ℕ → ℕ
times_in v [] = 0
times_in v (x ∷ xs) = (if nat_eq x v then 1 else 0) + times_in v xs

-- the virtual pages of all groups
abbrev pub all_pages : List Group → List ℕ
all_pages groups = flat_map virtual_pages groups

-- the slot's object is in a member of the group, and has from 1 byte to the size of the group's class
pub record IsSoundSlot (group : Group) (slot : Slot) : Type 0 where
  pub in_member : 1 ≤ times_in slot.member group.members
  pub some : 1 ≤ slot.len
  pub fits : slot.len ≤ group.class

-- the group's class is one of the ten size classes; the group has 1 to 8 members, an entry for each slot, and only
-- sound objects
pub record IsSoundGroup (group : Group) : Type 0 where
  pub class : IsSome (row_of group.class)
  pub some_member : 1 ≤ length group.members
  pub few_members : length group.members ≤ 8
  pub places : length group.slots ≡ slots_of group.class
  pub objects : (k : ℕ) (slot : Slot) → slice_get group.slots k ≡ Some (Some slot) → IsSoundSlot group slot

-- each group is sound
abbrev pub AreSoundGroups : List Group → Type 0
AreSoundGroups [] = Unit {0}
AreSoundGroups (group ∷ groups) = IsSoundGroup group × AreSoundGroups groups

-- the numbers of the groups ascend, from the first bound or above, and are below the second bound
abbrev pub AscendBetween : ℕ → List Group → ℕ → Type 0
AscendBetween low [] high = low ≤ high
AscendBetween low (group ∷ groups) high = (low ≤ group.number) × AscendBetween (group.number + 1) groups high

-- a mesh from the source can be at this progress, and has a step left
abbrev pub IsWithinSteps : Group → Progress → Type 0
IsWithinSteps source (Made d) = d < 3 * page_count source + slots_of source.class + pages_of source.class
IsWithinSteps source (Unwinding q u) = (u < q) × (q ≤ page_count source)

-- the mesh is of two different groups of its class, with no occupied slot number in common and at most 8 members
-- together, and its progress is within its steps
pub record IsSoundBetween (from into : Option Group) (mesh : Mesh) : Type 0 where
  pub source : Group
  pub destination : Group
  pub source_is : from ≡ Some source
  pub destination_is : into ≡ Some destination
  pub two : nat_eq mesh.source mesh.destination ≡ false
  pub source_class : source.class ≡ mesh.class
  pub destination_class : destination.class ≡ mesh.class
  pub apart : do_overlap source.slots destination.slots ≡ false
  pub few_members : length source.members + length destination.members ≤ 8
  pub within : IsWithinSteps source mesh.progress

-- the mesh is sound, and both its groups are in the table
abbrev pub IsSoundMesh : Table → Mesh → Type 0
IsSoundMesh t mesh = IsSoundBetween (group_of t mesh.source) (group_of t mesh.destination) mesh

-- each running mesh is sound
abbrev pub AreSoundMeshes : Table → List Mesh → Type 0
AreSoundMeshes t [] = Unit {0}
AreSoundMeshes t (mesh ∷ meshes) = IsSoundMesh t mesh × AreSoundMeshes t meshes

-- how many of the meshes are of the class
abbrev pub meshes_of : ℕ → List Mesh → ℕ
meshes_of class [] = 0
meshes_of class (mesh ∷ meshes) = (if nat_eq mesh.class class then 1 else 0) + meshes_of class meshes

-- a sound table: what always holds within a table
pub record IsSound (t : Table) : Type 0 where
  pub some_page : 1 ≤ t.next_page
  pub few_pages : t.next_page ≤ 65536
  pub pages_once : (v : ℕ) → times_in v (all_pages t.groups) ≤ 1
  pub pages_used : (v : ℕ) → 1 ≤ times_in v (all_pages t.groups) → (1 ≤ v) × (v < t.next_page)
  pub groups : AreSoundGroups t.groups
  pub numbers : AscendBetween 0 t.groups t.next_span
  pub meshes : AreSoundMeshes t t.meshes
  pub one_a_class : (class : ℕ) → meshes_of class t.meshes ≤ 1

-- some group of the class has this object in its slot `k`
pub record IsFilled (t : Table) (class k : ℕ) (slot : Slot) : Type 0 where
  pub number : ℕ
  pub group : Group
  pub there : group_of t number ≡ Some group
  pub class_is : group.class ≡ class
  pub filled : slice_get group.slots k ≡ Some (Some slot)

-- the slot's object is live in the memory, at the slot's address and of its length
pub record IsLiveSlot (m : Memory) (class k : ℕ) (slot : Slot) : Type 0 where
  pub object : Object
  pub live : object_of m slot.serial ≡ Some object
  pub address : object.address ≡ slot_address slot.member class k
  pub len : length object.bytes ≡ slot.len

-- the object of the serial is in a slot of the table, at its address and with its length
pub record HasSlot (t : Table) (serial : ℕ) (object : Object) : Type 0 where
  pub number : ℕ
  pub group : Group
  pub k : ℕ
  pub slot : Slot
  pub there : group_of t number ≡ Some group
  pub filled : slice_get group.slots k ≡ Some (Some slot)
  pub serial_is : slot.serial ≡ serial
  pub address : object.address ≡ slot_address slot.member group.class k
  pub len : length object.bytes ≡ slot.len

-- table and memory have the same objects, with the same addresses and lengths
pub record IsTied (m : Memory) (t : Table) : Type 0 where
  pub slots : (number k : ℕ) (group : Group) (slot : Slot) → group_of t number ≡ Some group → slice_get group.slots k ≡ Some (Some slot)
      → IsLiveSlot m group.class k slot
  pub objects : (serial : ℕ) (object : Object) → object_of m serial ≡ Some object → HasSlot t serial object
