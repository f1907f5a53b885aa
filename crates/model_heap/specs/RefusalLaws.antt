-- When each refusal of a call on a table holds, whether or not others hold, and that a call returns the lowest refusal
-- that holds.
use Rattle.std.specs.Prelude.{◌≡◌, ◌≢◌, ◌⊎◌, ℕ, ◌+◌, ◌-◌, ◌<◌, Bool, true, false, Some, None, find, length, slice_get}
use Rattle.model_words.specs.Classes.{class_for, pages_of, slots_of}
use Rattle.model_heap.specs.Mesh.{begin, cancel, mesh_whole, page_count, step}
use Rattle.model_heap.specs.Sound.{IsSound}
use Rattle.model_heap.specs.Table.{Group, Made, Mesh, Slot, Table, group_of, is_open, place_new, sweep}
use Rattle.model_words.specs.declared.refusals.Refusal.{Refusal}
use Rattle.model_words.specs.declared.refusals.Refusal.TheVariants.{Zero, TooLarge, NoPages, NoAddresses, NoGroup, Same, Class, Busy, Overlap, Members, NoMesh, TooLate, NotEmpty}
use Rattle.model_words.specs.Refusals.{IsRefusedBy}

-- the table has a group of the number, and `holds` is true of this group
pub record OfGroup (t : Table) (n : ℕ) (holds : Group → Type 0) : Type 0 where
  pub group : Group
  pub there : group_of t n ≡ Some group
  pub is : holds group

-- the table has both groups, and `holds` is true of the two
pub record OfBoth (t : Table) (source destination : ℕ) (holds : Group → Group → Type 0) : Type 0 where
  pub a : Group
  pub b : Group
  pub source_is : group_of t source ≡ Some a
  pub destination_is : group_of t destination ≡ Some b
  pub is : holds a b

-- a slot number is occupied in both groups
pub record ShareSlot (a b : Group) : Type 0 where
  pub k : ℕ
  pub x : Slot
  pub y : Slot
  pub in_a : slice_get a.slots k ≡ Some (Some x)
  pub in_b : slice_get b.slots k ≡ Some (Some y)

-- when each refusal of `begin` and of a whole mesh holds
abbrev pub mesh_holds : (Table → ℕ → Bool) → Table → ℕ → ℕ → Refusal → Type 0
mesh_holds busy t source destination NoGroup = (group_of t source ≡ None) ⊎ (group_of t destination ≡ None)
mesh_holds busy t source destination Same = source ≡ destination
mesh_holds busy t source destination Class = OfBoth t source destination (λ a b. a.class ≢ b.class)
mesh_holds busy t source destination Busy = OfGroup t source (λ a. busy t a.class ≡ true)
mesh_holds busy t source destination Overlap = OfBoth t source destination ShareSlot
mesh_holds busy t source destination Members = OfBoth t source destination (λ a b. 8 < length a.members + length b.members)
mesh_holds busy t source destination _ = ⊥

-- `begin` is refused with the lowest refusal that holds, and succeeds if and only if none holds
abbrev pub BeginIsRefusedByLowest : Type 0
BeginIsRefusedByLowest = (busy : Table → ℕ → Bool) (t : Table) (source destination : ℕ)
    → IsRefusedBy (mesh_holds busy t source destination) (begin busy t source destination)

-- a whole mesh is refused with the lowest refusal that holds, and succeeds if and only if none holds
abbrev pub WholeIsRefusedByLowest : Type 0
WholeIsRefusedByLowest = (busy : Table → ℕ → Bool) (t : Table) (source destination : ℕ)
    → IsRefusedBy (mesh_holds busy t source destination) (mesh_whole busy t source destination)

-- the group of the number is the source or the destination of a running mesh
pub record IsOfMesh (t : Table) (n : ℕ) : Type 0 where
  pub i : ℕ
  pub mesh : Mesh
  pub running : slice_get t.meshes i ≡ Some mesh
  pub part : (mesh.source ≡ n) ⊎ (mesh.destination ≡ n)

-- a slot of the group is occupied
pub record HasObject (group : Group) : Type 0 where
  pub k : ℕ
  pub slot : Slot
  pub filled : slice_get group.slots k ≡ Some (Some slot)

-- when each refusal of a sweep holds. `Busy` holds if the group itself is in a running mesh, not if only another group
-- of its class is
abbrev pub sweep_holds : Table → ℕ → Refusal → Type 0
sweep_holds t n NoGroup = group_of t n ≡ None
sweep_holds t n Busy = IsOfMesh t n
sweep_holds t n NotEmpty = OfGroup t n HasObject
sweep_holds t n _ = ⊥

-- a sweep is refused with the lowest refusal that holds, and succeeds if and only if none holds
abbrev pub SweepIsRefusedByLowest : Type 0
SweepIsRefusedByLowest = (t : Table) (n : ℕ) → IsRefusedBy (sweep_holds t n) (sweep t n)

-- no running mesh passes the test
abbrev pub HasNoMesh : Table → (Mesh → Bool) → Type 0
HasNoMesh t test = (i : ℕ) (mesh : Mesh) → slice_get t.meshes i ≡ Some mesh → test mesh ≡ false

-- the first mesh that passes the test has remapped a page: it isn't unwinding, and has made more steps than its
-- protects and copies
pub record IsTooLate (t : Table) (test : Mesh → Bool) : Type 0 where
  pub mesh : Mesh
  pub source : Group
  pub made : ℕ
  pub running : find test t.meshes ≡ Some mesh
  pub source_is : group_of t mesh.source ≡ Some source
  pub made_is : mesh.progress ≡ Made made
  pub late : page_count source + slots_of source.class < made

-- when `NoMesh`, the only refusal of a step, holds
abbrev pub step_holds : Table → (Mesh → Bool) → Refusal → Type 0
step_holds t test NoMesh = HasNoMesh t test
step_holds t test _ = ⊥

-- when each refusal of a cancel holds
abbrev pub cancel_holds : Table → (Mesh → Bool) → Refusal → Type 0
cancel_holds t test NoMesh = HasNoMesh t test
cancel_holds t test TooLate = IsTooLate t test
cancel_holds t test _ = ⊥

-- in a sound table, a step is refused with the lowest refusal that holds, and succeeds if and only if none holds. The
-- step is of the first mesh that passes a test, such as of any mesh or of a class's mesh
abbrev pub StepIsRefusedByLowest : Type 0
StepIsRefusedByLowest = (t : Table) (test : Mesh → Bool) → IsSound t → IsRefusedBy (step_holds t test) (step t (find test t.meshes))

-- in a sound table, a cancel of the first mesh that passes a test is refused with the lowest refusal that holds, and
-- succeeds if and only if none holds
abbrev pub CancelIsRefusedByLowest : Type 0
CancelIsRefusedByLowest = (t : Table) (test : Mesh → Bool) → IsSound t → IsRefusedBy (cancel_holds t test) (cancel t (find test t.meshes))

-- no group of the table is open to objects of the length's class, and `holds` is true of this class
pub record HasNoOpen (t : Table) (len : ℕ) (holds : ℕ → Type 0) : Type 0 where
  pub class : ℕ
  pub class_is : class_for len ≡ Some class
  pub none : (i : ℕ) (group : Group) → slice_get t.groups i ≡ Some group → is_open t class group ≡ false
  pub is : holds class

-- when each refusal of a new object holds. If no group is open, `NoPages` holds if a new span has more pages than are
-- free, and `NoAddresses` if its last page would be above the last virtual page
abbrev pub new_holds : Table → ℕ → Refusal → Type 0
new_holds t len Zero = len ≡ 0
new_holds t len TooLarge = 2048 < len
new_holds t len NoPages = HasNoOpen t len (λ class. t.free_pages < pages_of class)
new_holds t len NoAddresses = HasNoOpen t len (λ class. 65535 < t.next_page + (pages_of class - 1))
new_holds t len _ = ⊥

-- a new object is refused with the lowest refusal that holds, and succeeds if and only if none holds
abbrev pub NewIsRefusedByLowest : Type 0
NewIsRefusedByLowest = (t : Table) (len word serial : ℕ) → IsRefusedBy (new_holds t len) (place_new t len word serial)
