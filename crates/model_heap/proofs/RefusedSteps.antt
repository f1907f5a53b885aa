-- When a step or a cancel of a class is refused.
use Rattle.std.proofs.Common.{◌≡◌, ◌↔◌, ℕ, ◌+◌, ◌<◌, true, false, find, Option, Some, None, Ok, Err, ap, refl, sym, ◌∙◌, arith, ◌⊎◌, inl, inr}
use Rattle.std.specs.List.{list_any}
use Rattle.model_words.proofs.Tests.{tells}
use Rattle.model_heap.proofs.MeshClasses.{found_some, some_found}
use Rattle.model_heap.proofs.MeshLists.{mesh_found}
use Rattle.model_heap.proofs.OneMesh.{of_class}
use Rattle.model_words.specs.Classes.{slots_of}
use Rattle.model_heap.specs.Mesh.{cancel, cancelled, mesh_in, mesh_of_class, page_count, step, stepped}
use Rattle.model_heap.specs.MeshLaws.{HasRemapped}
use Rattle.model_heap.specs.Sound.{IsSound}
use Rattle.model_heap.specs.Table.{Group, Made, Mesh, Table, group_of}
use Rattle.model_words.specs.declared.refusals.Refusal.{Refusal}
use Rattle.model_words.specs.declared.refusals.Refusal.TheVariants.{NoMesh, TooLate}

-- the mesh of the class and its source, or none of the class is running
abbrev Running : Table → ℕ → Type 0
Running t class =
    ((mesh : Mesh) × (source : Group) × (mesh_in t class ≡ Some mesh) × (group_of t mesh.source ≡ Some source) × (mesh_of_class t class ≡ true))
    ⊎ ((mesh_in t class ≡ None) × (mesh_of_class t class ≡ false))

running : (t : Table) (class : ℕ) → IsSound t → Running t class
running t class sound = elim (tells (list_any (of_class class) t.meshes)) [
  | inl some ↦ let is = some_found (of_class class) t.meshes some in let old = mesh_found t (of_class class) t.meshes is.0 is.1 sound.meshes in
      inl (is.0, old.source, is.1, old.source_is, some)
  | inr none ↦ inr (none_found (find (of_class class) t.meshes) refl none, none)
]
  where
    none_found : (o : Option Mesh) → find (of_class class) t.meshes ≡ o → list_any (of_class class) t.meshes ≡ false → find (of_class class) t.meshes ≡ None
    none_found None is none = is
    none_found (Some mesh) is none = absurd (let clash : true ≡ false = sym (found_some (of_class class) t.meshes mesh is) ∙ none in cc clash)

-- a step of a mesh that is there is made
pub step_made : (t : Table) (mesh : Mesh) (source : Group) (which : Option Mesh) → which ≡ Some mesh → group_of t mesh.source ≡ Some source
    → step t which ≡ Ok (stepped t mesh source mesh.progress)
step_made t mesh source which is source_is = grind arith

-- a cancel of a mesh that is there is told by its progress
cancel_told : (t : Table) (mesh : Mesh) (source : Group) (which : Option Mesh) → which ≡ Some mesh → group_of t mesh.source ≡ Some source
    → cancel t which ≡ cancelled t mesh source mesh.progress
cancel_told t mesh source which is source_is = grind arith

-- a step is refused exactly where no mesh of the class is running
pub step_refused : (t : Table) (class : ℕ) (refusal : Refusal) → IsSound t
    → (step t (mesh_in t class) ≡ Err refusal) ↔ ((refusal ≡ NoMesh) × (mesh_of_class t class ≡ false))
step_refused t class refusal sound = grind (arith, running t class sound)

-- a mesh that has remapped a page is cancelled no more
late_refused : (t : Table) (mesh : Mesh) (source : Group) (d : ℕ) → page_count source + slots_of source.class < d
    → cancelled t mesh source (Made d) ≡ Err TooLate
late_refused t mesh source d late = grind arith

-- a cancel is refused without a mesh exactly where none of the class is running
pub cancel_none : (t : Table) (class : ℕ) → IsSound t → (cancel t (mesh_in t class) ≡ Err NoMesh) ↔ (mesh_of_class t class ≡ false)
cancel_none t class sound = grind (arith, running t class sound)

-- too late exactly where its mesh has remapped a page
pub cancel_late : (t : Table) (class : ℕ) → IsSound t → (cancel t (mesh_in t class) ≡ Err TooLate) ↔ HasRemapped t class
cancel_late t class sound = (to, from)
  where
    to : cancel t (mesh_in t class) ≡ Err TooLate → HasRemapped t class
    to h = grind arith

    from : HasRemapped t class → cancel t (mesh_in t class) ≡ Err TooLate
    from is = cancel_told t is.mesh is.source (mesh_in t class) is.running is.source_is
        ∙ ap (cancelled t is.mesh is.source) is.made_is ∙ late_refused t is.mesh is.source is.made is.late

-- and for nothing else
pub cancel_refused : (t : Table) (class : ℕ) (refusal : Refusal) → IsSound t → cancel t (mesh_in t class) ≡ Err refusal
    → (refusal ≡ NoMesh) ⊎ (refusal ≡ TooLate)
cancel_refused t class refusal sound h = grind arith
