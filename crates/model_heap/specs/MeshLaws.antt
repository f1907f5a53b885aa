-- How the steps of a mesh are counted, when a step or a cancel is refused, and that at most one mesh of each class
-- runs.
use Rattle.std.specs.Prelude.{◌≡◌, ℕ, zero, suc, ◌+◌, ◌<◌, ◌≤◌, Some, Result, Ok, ◌≢◌, ◌↔◌, ◌⊎◌, ◌*◌, Bool, true, false, Option, None, Err, length, slice_get}
use Rattle.model_heap.specs.Mesh.{any_mesh, begin, cancelled, step_count, table_after, table_unwound, first_mesh, mesh_whole, step, Stepped, cancel, left_of, mesh_in, mesh_of_class, page_count}
use Rattle.model_words.specs.Words.{◌>>=◌}
use Rattle.model_words.specs.Classes.{pages_of, slots_of}
use Rattle.model_heap.specs.Table.{Counted, Mesh, Table, group_of, Group, Progress, Made}
use Rattle.model_words.specs.declared.refusals.Refusal.{Refusal}
use Rattle.model_heap.specs.Sound.{IsSound}
use Rattle.model_heap.specs.TableLaws.{IsBusyTest}
use Rattle.model_words.specs.declared.refusals.Refusal.TheVariants.{NoMesh, TooLate}

-- the number of steps left in a mesh from this source, or 0 if there is no source
abbrev pub left_from : Progress → Option Group → ℕ
left_from progress None = 0
left_from progress (Some source) = left_of source progress

-- the number of steps left in a mesh, or 0 if there is no mesh
abbrev pub left_with : Table → Option Mesh → ℕ
left_with t None = 0
left_with t (Some mesh) = left_from mesh.progress (group_of t mesh.source)

-- the number of steps left in the running mesh of a class, or 0 if no mesh of the class is running
abbrev pub left_in : Table → ℕ → ℕ
left_in t class = left_with t (mesh_in t class)

-- `begin` returns the number of all steps: three for each virtual page of the source, one for each slot, and one for
-- each physical page
abbrev pub BeginAnswersAllSteps : Type 0
BeginAnswersAllSteps = (busy : Table → ℕ → Bool) (t : Table) (source destination : ℕ) (group : Group) (begun : Counted)
    → group_of t source ≡ Some group → begin busy t source destination ≡ Ok begun
    → begun.count ≡ 3 * (length group.members * pages_of group.class) + slots_of group.class + pages_of group.class

-- if a mesh begins in a sound table with a test of busy classes, `begin` returns the number of steps left in the mesh
abbrev pub BeginLeavesSteps : Type 0
BeginLeavesSteps = (busy : Table → ℕ → Bool) (t : Table) (source destination : ℕ) (group : Group) (begun : Counted) → IsBusyTest busy t → IsSound t
    → group_of t source ≡ Some group → begin busy t source destination ≡ Ok begun → left_in begun.table group.class ≡ begun.count

-- in a sound table, a step lowers the number of steps left by one, and returns the new number
abbrev pub StepTakesOne : Type 0
StepTakesOne = (t : Table) (class : ℕ) (stepped : Stepped) → IsSound t → step t (mesh_in t class) ≡ Ok stepped
    → (stepped.left + 1 ≡ left_in t class) × (left_in stepped.table class ≡ stepped.left)

-- in a sound table, a step ends the mesh if and only if it returns that no step is left
abbrev pub LastStepEnds : Type 0
LastStepEnds = (t : Table) (class : ℕ) (stepped : Stepped) → IsSound t → step t (mesh_in t class) ≡ Ok stepped
    → (mesh_in stepped.table class ≡ None) ↔ (stepped.left ≡ 0)

-- in a sound table, a cancel returns the number of steps left after the cancel
abbrev pub CancelAnswersLeft : Type 0
CancelAnswersLeft = (t : Table) (class : ℕ) (cancelled : Counted) → IsSound t → cancel t (mesh_in t class) ≡ Ok cancelled
    → left_in cancelled.table class ≡ cancelled.count

-- in a sound table, a cancel ends the mesh if and only if it returns that no step is left
abbrev pub CancelOfNoneEnds : Type 0
CancelOfNoneEnds = (t : Table) (class : ℕ) (cancelled : Counted) → IsSound t → cancel t (mesh_in t class) ≡ Ok cancelled
    → (mesh_in cancelled.table class ≡ None) ↔ (cancelled.count ≡ 0)

-- in a sound table, a step of one class doesn't change the number of steps left in the mesh of another class
abbrev pub OthersKeepTheirSteps : Type 0
OthersKeepTheirSteps = (t : Table) (class other : ℕ) (stepped : Stepped) → IsSound t → other ≢ class → step t (mesh_in t class) ≡ Ok stepped
    → left_in stepped.table other ≡ left_in t other

-- the table after `n` steps of the mesh of a class, or the refusal
abbrev pub steps_of_class : ℕ → ℕ → Table → Result Table Refusal
steps_of_class class zero t = Ok t
steps_of_class class (suc n) t = step t (mesh_in t class) >>= λ stepped. steps_of_class class n stepped.table

-- if `n` steps of the mesh of a class are made in a sound table, the number of steps left is lower by `n`
abbrev pub StepsCountDown : Type 0
StepsCountDown = (n class : ℕ) (t u : Table) → IsSound t → steps_of_class class n t ≡ Ok u → left_in u class + n ≡ left_in t class

-- on this table, `begin` and all steps of its class lead to the table of the whole mesh, whatever meshes of other
-- classes are running
abbrev pub IsAllStepsOfClass : (Table → ℕ → Bool) → Table → Type 0
IsAllStepsOfClass busy t = (source destination : ℕ) (group : Group) (whole begun : Counted) → mesh_whole busy t source destination ≡ Ok whole
    → begin busy t source destination ≡ Ok begun → group_of t source ≡ Some group → steps_of_class group.class begun.count begun.table ≡ Ok whole.table

-- `IsAllStepsOfClass` holds for every sound table with a test of busy classes
abbrev pub WholeIsAllStepsOfClass : Type 0
WholeIsAllStepsOfClass = (busy : Table → ℕ → Bool) (t : Table) → IsBusyTest busy t → IsSound t → IsAllStepsOfClass busy t

-- `IsAllStepsOfClass` holds for every sound table if only one mesh may run at a time
abbrev pub WholeIsAllStepsAlone : Type 0
WholeIsAllStepsAlone = (t : Table) → IsSound t → IsAllStepsOfClass any_mesh t

-- `IsAllStepsOfClass` holds for every sound table if one mesh of each class may run at a time
abbrev pub WholeIsAllStepsBeside : Type 0
WholeIsAllStepsBeside = (t : Table) → IsSound t → IsAllStepsOfClass mesh_of_class t

-- no two running meshes are of one class
abbrev pub AtMostOneAClass : Table → Type 0
AtMostOneAClass t = (i j : ℕ) (x y : Mesh) → slice_get t.meshes i ≡ Some x → slice_get t.meshes j ≡ Some y → x.class ≡ y.class → i ≡ j

-- in a sound table, at most one mesh of each class is running
abbrev pub SoundHasOneAClass : Type 0
SoundHasOneAClass = (t : Table) → IsSound t → AtMostOneAClass t

-- if a mesh begins in a sound table and no other mesh of its class is running, at most one mesh of each class is
-- running afterwards
abbrev pub BeginKeepsOneAClass : Type 0
BeginKeepsOneAClass = (t : Table) (source destination : ℕ) (begun : Counted) → IsSound t → begin mesh_of_class t source destination ≡ Ok begun
    → AtMostOneAClass begun.table

-- if a whole mesh is made in a sound table and no mesh of its class is running, at most one mesh of each class is
-- running afterwards
abbrev pub WholeKeepsOneAClass : Type 0
WholeKeepsOneAClass = (t : Table) (source destination : ℕ) (whole : Counted) → IsSound t → mesh_whole mesh_of_class t source destination ≡ Ok whole
    → AtMostOneAClass whole.table

-- if the mesh of a class makes a step in a sound table, at most one mesh of each class is running afterwards
abbrev pub StepKeepsOneAClass : Type 0
StepKeepsOneAClass = (t : Table) (class : ℕ) (stepped : Stepped) → IsSound t → step t (mesh_in t class) ≡ Ok stepped → AtMostOneAClass stepped.table

-- if the mesh of a class is cancelled in a sound table, at most one mesh of each class is running afterwards
abbrev pub CancelKeepsOneAClass : Type 0
CancelKeepsOneAClass = (t : Table) (class : ℕ) (cancelled : Counted) → IsSound t → cancel t (mesh_in t class) ≡ Ok cancelled
    → AtMostOneAClass cancelled.table

-- the mesh that `mesh_in` returns for a class is a running mesh of this class
abbrev pub MeshInIsOfClass : Type 0
MeshInIsOfClass = (t : Table) (class : ℕ) (mesh : Mesh) → mesh_in t class ≡ Some mesh
    → (mesh.class ≡ class) × ((i : ℕ) × (slice_get t.meshes i ≡ Some mesh))

-- `mesh_of_class` is true if and only if `mesh_in` returns a mesh
abbrev pub ClassHasMesh : Type 0
ClassHasMesh = (t : Table) (class : ℕ) → (mesh_of_class t class ≡ true) ↔ ((mesh : Mesh) × (mesh_in t class ≡ Some mesh))

-- in a sound table, a step of a class is refused if and only if no mesh of the class is running, and then with `NoMesh`
abbrev pub StepIsRefusedWithoutMesh : Type 0
StepIsRefusedWithoutMesh = (t : Table) (class : ℕ) (refusal : Refusal) → IsSound t
    → (step t (mesh_in t class) ≡ Err refusal) ↔ ((refusal ≡ NoMesh) × (mesh_of_class t class ≡ false))

-- the running mesh of a class has remapped a page: it isn't unwinding, and has made more steps than its protects and
-- copies
pub record HasRemapped (t : Table) (class : ℕ) : Type 0 where
  pub mesh : Mesh
  pub source : Group
  pub made : ℕ
  pub running : mesh_in t class ≡ Some mesh
  pub source_is : group_of t mesh.source ≡ Some source
  pub made_is : mesh.progress ≡ Made made
  pub late : page_count source + slots_of source.class < made

-- in a sound table, a cancel of a class is refused with `NoMesh` if and only if no mesh of the class is running
abbrev pub CancelIsRefusedWithoutMesh : Type 0
CancelIsRefusedWithoutMesh = (t : Table) (class : ℕ) → IsSound t → (cancel t (mesh_in t class) ≡ Err NoMesh) ↔ (mesh_of_class t class ≡ false)

-- in a sound table, a cancel of a class is refused with `TooLate` if and only if the running mesh of the class has
-- remapped a page
abbrev pub CancelIsRefusedLate : Type 0
CancelIsRefusedLate = (t : Table) (class : ℕ) → IsSound t → (cancel t (mesh_in t class) ≡ Err TooLate) ↔ HasRemapped t class

-- in a sound table, a cancel of a class is refused only with `NoMesh` or `TooLate`
abbrev pub CancelHasTwoRefusals : Type 0
CancelHasTwoRefusals = (t : Table) (class : ℕ) (refusal : Refusal) → IsSound t → cancel t (mesh_in t class) ≡ Err refusal
    → (refusal ≡ NoMesh) ⊎ (refusal ≡ TooLate)

-- the table after `n` steps, each of the first running mesh, or the refusal
abbrev pub steps_made : ℕ → Table → Result Table Refusal
steps_made zero t = Ok t
steps_made (suc n) t = step t (first_mesh t) >>= λ stepped. steps_made n stepped.table

-- if there is a group of the number, its class has at least one page, as in every sound table
abbrev pub HasPages : Table → ℕ → Type 0
HasPages t n = (group : Group) → group_of t n ≡ Some group → 1 ≤ pages_of group.class

-- if no other mesh is running and the source's class has a page, `begin` and all its steps lead to the table of the
-- whole mesh
abbrev pub WholeIsAllSteps : Type 0
WholeIsAllSteps = (t : Table) (source destination : ℕ) (whole begun : Counted) → HasPages t source
    → mesh_whole any_mesh t source destination ≡ Ok whole → begin any_mesh t source destination ≡ Ok begun
    → steps_made begun.count begun.table ≡ Ok whole.table

-- no step but the last changes a group, so the address and the slot of every object are unchanged
abbrev pub StepsLeaveGroups : Type 0
StepsLeaveGroups = (t : Table) (mesh : Mesh) (source : Group) (d : ℕ) → d + 1 < step_count source
    → (table_after t mesh source d).groups ≡ t.groups

-- an unprotect of a cancelled mesh changes neither the groups nor the number of free pages
abbrev pub UnwindingLeavesGroups : Type 0
UnwindingLeavesGroups = (t : Table) (mesh : Mesh) (q u : ℕ)
    → ((table_unwound t mesh q u).groups ≡ t.groups) × ((table_unwound t mesh q u).free_pages ≡ t.free_pages)

-- a cancel changes neither the groups nor the number of free pages
abbrev pub CancelLeavesGroups : Type 0
CancelLeavesGroups = (t : Table) (mesh : Mesh) (source : Group) (progress : Progress) (x : Counted) → cancelled t mesh source progress ≡ Ok x
    → (x.table.groups ≡ t.groups) × (x.table.free_pages ≡ t.free_pages)
