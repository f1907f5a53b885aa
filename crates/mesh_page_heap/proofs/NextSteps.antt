-- What the table's next step is, by the phase that a mesh is in.
use Rattle.std.proofs.Common.{◌≡◌, ◌≢◌, ℕ, ◌+◌, ◌-◌, ◌*◌, ◌<◌, refl, arith, inl, inr}
use Rattle.std.proofs.lemmas.Bool.Decides.{leb_tells, nat_tests}
use Rattle.std.proofs.lemmas.Bool.{le-leb, lt-leb}
use Rattle.mesh_class.specs.Classes.{pages_of, slots_of}
use Rattle.model_heap.specs.Mesh.{free_after, kind_after, merged, page_count, step_count, table_after, with_progress, without_mesh}
use Rattle.model_heap.specs.StepEffects.{steps_before}
use Rattle.model_heap.specs.Table.{Group, Made, Mesh, Table}
use Rattle.mesh_page_heap.specs.StepChanges.{IsStepAt}
use Rattle.model_words.specs.declared.commands.StepKind.{StepKind}
use Rattle.model_words.specs.declared.commands.StepKind.TheVariants.{Copy, Protect, Release, Remap, Unprotect}

-- which kind a step is of, and its number
pub kind_is : (g : Group) (total slots pages made i : ℕ) (kind : StepKind) → page_count g ≡ total → slots_of g.class ≡ slots → IsStepAt total slots pages made kind i
    → (kind_after g made ≡ kind) × (made - steps_before g kind ≡ i)
kind_is g total slots pages made i Protect t s is = (grind (arith, nat_tests), omega arith)
kind_is g total slots pages made i Copy t s is = (grind (arith, nat_tests), omega arith)
kind_is g total slots pages made i Remap t s is = (grind (arith, nat_tests), omega arith)
kind_is g total slots pages made i Unprotect t s is = (grind (arith, nat_tests), omega arith)
kind_is g total slots pages made i Release t s is = (grind (arith, nat_tests), omega arith)

-- a release comes after all other steps
pub release_kind : (g : Group) (j : ℕ) → kind_after g (3 * page_count g + slots_of g.class + j) ≡ Release
release_kind g j = grind (arith, nat_tests)

-- a step that is no release moves the mesh on alone
pub quiet_after : (t : Table) (mesh : Mesh) (g : Group) (d : ℕ) → 0 < pages_of g.class → d < 3 * page_count g + slots_of g.class → kind_after g d ≢ Release
    → table_after t mesh g d ≡ record t { meshes = with_progress t.meshes mesh (Made (d + 1)) }
quiet_after t mesh g d some below other = elim (leb_tells (step_count g) (d + 1)) [
  | inl last ↦ absurd (let l = last.1 in omega (arith, l, below, some))
  | inr more ↦ rw more.0 (go (kind_after g d) other)
]
  where
    go : (kind : StepKind) → kind ≢ Release
        → ◌≡◌ {A = Table} (record t { free_pages = free_after kind t.free_pages; meshes = with_progress t.meshes mesh (Made (d + 1)) })
        (record t { meshes = with_progress t.meshes mesh (Made (d + 1)) })
    go Protect h = refl
    go Copy h = refl
    go Remap h = refl
    go Unprotect h = refl
    go Release h = absurd (h refl)

-- a release that isn't the last gives one page back
pub release_after : (t : Table) (mesh : Mesh) (g : Group) (j : ℕ) → j + 1 < pages_of g.class
    → table_after t mesh g (3 * page_count g + slots_of g.class + j)
    ≡ record t { free_pages = t.free_pages + 1; meshes = with_progress t.meshes mesh (Made (3 * page_count g + slots_of g.class + j + 1)) }
release_after t mesh g j h = rw (lt-leb (step_count g) (3 * page_count g + slots_of g.class + j + 1) (omega (arith, h)), release_kind _ _) refl

-- the last one merges too
pub last_after : (t : Table) (mesh : Mesh) (g : Group) (j : ℕ) → j + 1 ≡ pages_of g.class
    → table_after t mesh g (3 * page_count g + slots_of g.class + j)
    ≡ record t { free_pages = t.free_pages + 1; meshes = without_mesh t.meshes mesh; groups = merged t.groups g mesh.destination }
last_after t mesh g j h = rw (le-leb (step_count g) (3 * page_count g + slots_of g.class + j + 1) (omega (arith, h)), release_kind _ _) refl
