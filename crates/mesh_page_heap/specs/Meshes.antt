-- How meshes begin, proceed, are cancelled and end.
use Rattle.std.specs.Prelude.{◌≡◌, ◌≢◌, ◌<◌, ℕ, Bool, false, List, IsSome, Ok, Some, length, slice_get, slice_set}
use Rattle.std.specs.List.{remove}
use Rattle.mesh_page_heap.specs.Effects.{HasEffect}
use Rattle.mesh_page_heap.specs.Indexes.{class_in, layout_of, members_in, pages_in, slots_in}
use Rattle.mesh_page_heap.specs.StepChanges.{Keeps}
use Rattle.model_heap.specs.Mesh.{Pair, any_mesh, begin, cancel, may_begin, mesh_in, mesh_of_class, step}
use Rattle.model_heap.specs.Table.{Mesh, Table, Unwinding}
use Rattle.mesh_spans.specs.Groups.{groups_of, is_closed}
use Rattle.mesh_spans.specs.Index.{Index, group_at}
use Rattle.mesh_page_heap.specs.PageHeap.{PageHeap, table_in}
use Rattle.model_words.specs.declared.answers.StepDone.{StepDone}
use Rattle.mesh_page_heap.specs.declared.busy.Busy.{Busy}
use Rattle.mesh_page_heap.specs.declared.busy.Busy.TheVariants.{Any, OfClass}

-- whether running meshes keep a class busy
abbrev pub busy_by : Busy → Table → ℕ → Bool
busy_by OfClass = mesh_of_class
busy_by Any = any_mesh

-- a mesh of the two groups may begin, and the source is of this class
pub record IsPair (busy : Busy) (g : PageHeap) (source destination class : ℕ) : Type 0 where
  pub pair : Pair
  pub may : may_begin (busy_by busy) (table_in g) source destination ≡ Ok pair
  pub class_is : pair.source.class ≡ class

-- a mesh of the two groups was added to the table: `left` steps remain, and memory is unchanged
pub record IsBegun (busy : Busy) (old new : PageHeap) (source destination left : ℕ) : Type 0 where
  pub table : begin (busy_by busy) (table_in old) source destination ≡ Ok (record { count = left; table = table_in new })
  pub arena : new.arena ≡ old.arena
  pub map : new.map ≡ old.map

-- the mesh is at this place of the list, and is the running mesh of its class
pub record IsRunning (g : PageHeap) (place : ℕ) (mesh : Mesh) : Type 0 where
  pub at : slice_get g.meshes place ≡ Some mesh
  pub found : mesh_in (table_in g) mesh.class ≡ Some mesh

-- the next step of the mesh of a class was made, with the table and the effect that are defined, and no other effect.
-- Each byte of a live object is unchanged
pub record IsStepped (old new : PageHeap) (class : ℕ) (done : StepDone) : Type 0 where
  pub table : step (table_in old) (mesh_in (table_in old) class) ≡ Ok (record { kind = done.kind; left = done.left; table = table_in new })
  pub kept : Keeps (layout_of old.index) old.arena new.arena old.map new.map
  pub mesh : Mesh
  pub running : mesh_in (table_in old) class ≡ Some mesh
  pub effect : HasEffect old.index mesh old.arena new.arena old.map new.map

-- the mesh of a class was cancelled: `left` unprotects remain, and memory is unchanged
pub record IsCancelled (old new : PageHeap) (class left : ℕ) : Type 0 where
  pub table : cancel (table_in old) (mesh_in (table_in old) class) ≡ Ok (record { count = left; table = table_in new })
  pub arena : new.arena ≡ old.arena
  pub map : new.map ≡ old.map

-- the two groups are open, and nothing else of the index changed
pub record OpensBoth (old new : Index) (source destination : ℕ) : Type 0 where
  pub class : (n : ℕ) → class_in (group_at new.groups n) ≡ class_in (group_at old.groups n)
  pub members : (n : ℕ) → members_in (group_at new.groups n) ≡ members_in (group_at old.groups n)
  pub pages : (n : ℕ) → pages_in (group_at new.groups n) ≡ pages_in (group_at old.groups n)
  pub slots : (n : ℕ) → slots_in (group_at new.groups n) ≡ slots_in (group_at old.groups n)
  pub spans : new.spans ≡ old.spans
  pub groups : groups_of new ≡ groups_of old
  pub closed : (n : ℕ) → n ≢ source → n ≢ destination → is_closed new n ≡ is_closed old n
  pub closed_source : is_closed new source ≡ false
  pub closed_destination : is_closed new destination ≡ false

-- a mesh is in the list, and its two groups exist
pub record CanWindBack (index : Index) (list : List Mesh) (place : ℕ) (mesh : Mesh) : Type 0 where
  pub listed : place < length list
  pub source : IsSome (group_at index.groups mesh.source)
  pub destination : IsSome (group_at index.groups mesh.destination)

-- `unprotected` of the `protected` pages of a cancelled mesh are writable again. If these are all, the mesh is removed
-- from the list, and its two groups are open. Otherwise only the mesh's progress changes
pub record IsWoundBack (old new : Index) (list left : List Mesh) (place : ℕ) (mesh : Mesh) (protected unprotected : ℕ) : Type 0 where
  pub over : unprotected ≡ protected → OpensBoth old new mesh.source mesh.destination × (left ≡ remove list place)
  pub more : unprotected ≢ protected → (new ≡ old) × (left ≡ slice_set list place (record mesh { progress = Unwinding protected unprotected }))
