-- If a table is sound, it is sound after every transition.
use Rattle.std.specs.Prelude.{◌≡◌, ◌↔◌, ℕ, ◌+◌, ◌<◌, ◌≤◌, ◌⊎◌, Bool, true, false, IsSome, Some, Ok, find, length, slice_get}
use Rattle.model_words.specs.Classes.{pages_of, row_of}
use Rattle.model_memory.specs.Memory.{Memory}
use Rattle.model_heap.specs.Mesh.{any_mesh, begin, cancel, mesh_of_class, mesh_whole, step, virtual_pages, Stepped}
use Rattle.model_memory.specs.Plain.{IsVacantRange}
use Rattle.model_heap.specs.Sound.{IsSound, IsSoundGroup, IsTied, meshes_of, times_in}
use Rattle.model_heap.specs.Table.{Counted, Group, Mesh, Placed, Slot, Table, empty_table, group_of, is_meshing, is_open, object_count, place_new, slot_address, sweep, with_span, without_object}

-- the table with no span is sound
abbrev pub EmptyIsSound : Type 0
EmptyIsSound = (pages : ℕ) → IsSound (empty_table pages)

-- if a table is sound, it is sound after an object is removed
abbrev pub FreeKeepsSound : Type 0
FreeKeepsSound = (t : Table) (serial : ℕ) → IsSound t → IsSound (without_object t serial)

-- if a table is sound, it is sound after a sweep
abbrev pub SweepKeepsSound : Type 0
SweepKeepsSound = (t : Table) (n : ℕ) (swept : Counted) → IsSound t → sweep t n ≡ Ok swept → IsSound swept.table

-- a test of busy classes: if `busy` is false for a class, no mesh of this class is running
abbrev pub IsBusyTest : (Table → ℕ → Bool) → Table → Type 0
IsBusyTest busy t = (class : ℕ) → busy t class ≡ false → meshes_of class t.meshes ≡ 0

-- if a table with a test of busy classes is sound, it is sound after `begin`
abbrev pub BeginKeepsSound : Type 0
BeginKeepsSound = (busy : Table → ℕ → Bool) (t : Table) (source destination : ℕ) (begun : Counted) → IsBusyTest busy t → IsSound t
    → begin busy t source destination ≡ Ok begun → IsSound begun.table

-- if a table with a test of busy classes is sound, it is sound after a whole mesh
abbrev pub WholeKeepsSound : Type 0
WholeKeepsSound = (busy : Table → ℕ → Bool) (t : Table) (source destination : ℕ) (whole : Counted) → IsBusyTest busy t → IsSound t
    → mesh_whole busy t source destination ≡ Ok whole → IsSound whole.table

-- if a table is sound, it is sound after a cancel of the first mesh that passes any test
abbrev pub CancelKeepsSound : Type 0
CancelKeepsSound = (t : Table) (test : Mesh → Bool) (cancelled : Counted) → IsSound t → cancel t (find test t.meshes) ≡ Ok cancelled
    → IsSound cancelled.table

-- if a table is sound, it is sound after a step of the first mesh that passes any test
abbrev pub StepKeepsSound : Type 0
StepKeepsSound = (t : Table) (test : Mesh → Bool) (stepped : Stepped) → IsSound t → step t (find test t.meshes) ≡ Ok stepped → IsSound stepped.table

-- if a table is sound, it is sound after a new object
abbrev pub NewKeepsSound : Type 0
NewKeepsSound = (t : Table) (len word serial : ℕ) (placed : Placed) → IsSound t → place_new t len word serial ≡ Ok placed → IsSound placed.table

-- if a table is sound and has enough addresses for a span of a size class, it is sound after a new span of this class
abbrev pub SpanKeepsSound : Type 0
SpanKeepsSound = (t : Table) (class : ℕ) → IsSound t → IsSome (row_of class) → t.next_page + pages_of class ≤ 65536 → IsSound (with_span t class)

-- a group that is found in a sound table by any test is sound
abbrev pub GroupsAreSound : Type 0
GroupsAreSound = (t : Table) (test : Group → Bool) (g : Group) → IsSound t → find test t.groups ≡ Some g → IsSoundGroup g

-- in a sound table, a virtual page occurs at most once in a group
abbrev pub PageIsOnceInGroup : Type 0
PageIsOnceInGroup = (t : Table) (v n : ℕ) (g : Group) → IsSound t → group_of t n ≡ Some g → times_in v (virtual_pages g) ≤ 1

-- in a sound table, a virtual page is in at most one group
abbrev pub PageIsOfOneGroup : Type 0
PageIsOfOneGroup = (t : Table) (v m n : ℕ) (g h : Group) → IsSound t → group_of t m ≡ Some g → group_of t n ≡ Some h → 1 ≤ times_in v (virtual_pages g)
    → 1 ≤ times_in v (virtual_pages h) → m ≡ n

-- a group is open to new objects of a class if and only if it is of the class, is in no running mesh, and has a free
-- slot
abbrev pub OpenIsByTests : Type 0
OpenIsByTests = (t : Table) (class : ℕ) (g : Group) → (is_open t class g ≡ true)
    ↔ ((g.class ≡ class) × (is_meshing t g.number ≡ false) × (object_count g < length g.slots))

-- the group that is found for a new object is open
abbrev pub FoundIsOpen : Type 0
FoundIsOpen = (t : Table) (class : ℕ) (g : Group) → find (is_open t class) t.groups ≡ Some g → is_open t class g ≡ true

-- a new object that is not refused has 1 to 2,048 bytes
abbrev pub NewHasLength : Type 0
NewHasLength = (t : Table) (len word serial : ℕ) (placed : Placed) → place_new t len word serial ≡ Ok placed → (1 ≤ len) × (len ≤ 2048)

-- of the range of `m` addresses from `a` on and the range of `n` addresses from `b` on, one ends before the other
-- begins
abbrev pub AreApart : ℕ → ℕ → ℕ → ℕ → Type 0
AreApart a m b n = (a + m ≤ b) ⊎ (b + n ≤ a)

-- in a sound table, the range of a new object is apart from the range of each object in the table
abbrev pub NewIsApart : Type 0
NewIsApart = (t : Table) (len word serial : ℕ) (placed : Placed) (number k : ℕ) (group : Group) (slot : Slot) → IsSound t
    → place_new t len word serial ≡ Ok placed → group_of t number ≡ Some group → slice_get group.slots k ≡ Some (Some slot)
    → AreApart placed.address len (slot_address slot.member group.class k) slot.len

-- if a memory is tied to a sound table, the range of a new object is vacant in the memory
abbrev pub NewIsVacant : Type 0
NewIsVacant = (m : Memory) (t : Table) (len word serial : ℕ) (placed : Placed) → IsSound t → IsTied m t → place_new t len word serial ≡ Ok placed
    → IsVacantRange m placed.address len

-- `any_mesh` and `mesh_of_class` are both tests of busy classes
abbrev pub AnyTellsBusy : Type 0
AnyTellsBusy = (t : Table) → IsBusyTest any_mesh t

abbrev pub ClassTellsBusy : Type 0
ClassTellsBusy = (t : Table) → IsBusyTest mesh_of_class t
