-- The list of running meshes changed at a place.
use Rattle.std.proofs.Common.{◌≡◌, ℕ, zero, suc, ◌+◌, ◌≤◌, Bool, true, false, not, nat_eq, find, is_some, List, [], ◌∷◌, Option, None, Some, length, position, slice_get, slice_index_or, slice_set, remove, ap, sym, refl, ◌∙◌, arith, inl, inr}
use Rattle.std.specs.List.{list_any}
use Rattle.std.proofs.lemmas.Bool.{cases_Bool, eq-eqb, ne_eqb}
use Rattle.std.proofs.lemmas.Bool.Decides.{eqb_tells}
use Rattle.std.proofs.lemmas.List.Folds.{find_at}
use Rattle.std.proofs.lemmas.List.Quantifiers.{position-Some}
use Rattle.std.proofs.lemmas.List.Sums.{position_or_len_is}
use Rattle.std.proofs.lemmas.Map.Keys.{any_passes_from_place}
use Rattle.std.proofs.lemmas.Option.{slice_get-get_or, slice_get_past}
use Rattle.model_heap.proofs.ListPlaces.{any_passes, none_found_passes}
use Rattle.model_heap.proofs.MeshLists.{same_mesh}
use Rattle.model_heap.specs.Mesh.{is_mesh, with_progress, without_mesh}
use Rattle.model_heap.specs.Sound.{AreSoundMeshes, IsSoundMesh, meshes_of}
use Rattle.model_heap.specs.Table.{Made, Mesh, Progress, Table}
use Rattle.mesh_page_heap.proofs.MeshList.{counted, listed_sound, same_class}

-- what stands at the first place at which a test passes
pub record IsFirst (test : Mesh → Bool) (ms : List Mesh) (place : ℕ) : Type 0 where
  pub this : Mesh
  pub found : find test ms ≡ Some this
  pub at : slice_get ms place ≡ Some this
  pub passes : test this ≡ true

-- what stands for a mesh that there is not
no_mesh : Mesh
no_mesh = record { class = 0; source = 0; destination = 0; progress = Made 0 }

pub position_finds : (test : Mesh → Bool) (ms : List Mesh) (place : ℕ) → position test ms ≡ Some place → IsFirst test ms place
position_finds test ms place is =
    let first = position-Some test ms place no_mesh is in
    let there = slice_get-get_or ms place no_mesh first.0 in
    record {
      this = slice_index_or ms place no_mesh;
      found = find_at test ms ∙ ap (slice_get ms) (position_or_len_is test ms place no_mesh (let below = first.0 in omega (arith, below)) first.2 (λ _. first.1)) ∙ there;
      at = there;
      passes = first.1;
    }

-- where there is no such place, no mesh passes
pub position_none : (test : Mesh → Bool) (ms : List Mesh) → position test ms ≡ None → find test ms ≡ None
position_none test ms is = grind (arith, find_at, slice_get_past)

-- a mesh of another class is another mesh
another : (t : Table) (x this : Mesh) → IsSoundMesh t x → IsSoundMesh t this → (x.class ≡ this.class → ⊥) → is_mesh this x ≡ false
another t x this sound is other = rw (ne_eqb this.source x.source (λ same. other (sym (same_class t this x is sound same)))) refl

-- where none is of its class, no mesh is changed, and none taken out
pub none_changed : (t : Table) (ms : List Mesh) (this : Mesh) (progress : Progress) → IsSoundMesh t this → AreSoundMeshes t ms → meshes_of this.class ms ≡ 0
    → (with_progress ms this progress ≡ ms) × (without_mesh ms this ≡ ms)
none_changed t [] this progress is sound none = (refl, refl)
none_changed t (x ∷ xs) this progress is sound none = elim (eqb_tells x.class this.class) [
  | inl same ↦ absurd (let more : 1 + meshes_of this.class xs ≡ 0 = rw same.0 at none in omega (arith, more))
  | inr other ↦
      let rest = none_changed t xs this progress is sound.1 (omega (arith, rw other.0 at none)) in
      rw (another t x this sound.0 is other.1) (ap (λ (ys : List Mesh). x ∷ ys) rest.0, ap (λ (ys : List Mesh). x ∷ ys) rest.1)
]

-- the mesh that a list begins with is another than one behind it
first_other : (t : Table) (x : Mesh) (xs : List Mesh) (place : ℕ) (this : Mesh) → AreSoundMeshes t (x ∷ xs) → meshes_of this.class (x ∷ xs) ≤ 1
    → slice_get xs place ≡ Some this → is_mesh this x ≡ false
first_other t x xs place this sound few at = another t x this sound.0 (listed_sound t xs place this sound.1 at) (λ same.
    let sum : 1 + meshes_of this.class xs ≤ 1 = rw (eq-eqb x.class this.class same) at few in omega (arith, sum, counted xs place this at))

-- the mesh at a place with another progress, or taken out
at_place : (t : Table) (ms : List Mesh) (place : ℕ) (this : Mesh) (progress : Progress) → AreSoundMeshes t ms → ((class : ℕ) → meshes_of class ms ≤ 1)
    → slice_get ms place ≡ Some this
    → (slice_set ms place (record this { progress = progress }) ≡ with_progress ms this progress) × (remove ms place ≡ without_mesh ms this)
at_place t [] place this progress sound few at = absurd (cc at)
at_place t (x ∷ xs) zero this progress sound few at =
    let here : x ≡ this = cc at in
    let sum : 1 + meshes_of this.class xs ≤ 1 = rw (eq-eqb x.class this.class (ap (λ (m : Mesh). m.class) here)) at (few this.class) in
    let rest = none_changed t xs this progress (rw here at sound.0) sound.1 (omega (arith, sum)) in
    rw (here, same_mesh this) (ap (λ (ys : List Mesh). record this { progress = progress } ∷ ys) (sym rest.0), sym rest.1)
at_place t (x ∷ xs) (suc place) this progress sound few at =
    let rest = at_place t xs place this progress sound.1 (λ class. let most = few class in omega (arith, most)) at in
    rw (first_other t x xs place this sound (few this.class) at) (ap (λ (ys : List Mesh). x ∷ ys) rest.0, ap (λ (ys : List Mesh). x ∷ ys) rest.1)

-- the mesh at a place with another progress
pub progress_set : (t : Table) (ms : List Mesh) (place : ℕ) (this : Mesh) (progress : Progress) → AreSoundMeshes t ms → ((class : ℕ) → meshes_of class ms ≤ 1)
    → slice_get ms place ≡ Some this → slice_set ms place (record this { progress = progress }) ≡ with_progress ms this progress
progress_set t ms place this progress sound few at = (at_place t ms place this progress sound few at).0

-- the mesh at a place taken out
pub without_at : (t : Table) (ms : List Mesh) (place : ℕ) (this : Mesh) → AreSoundMeshes t ms → ((class : ℕ) → meshes_of class ms ≤ 1)
    → slice_get ms place ≡ Some this → remove ms place ≡ without_mesh ms this
without_at t ms place this sound few at = (at_place t ms place this this.progress sound few at).1

-- a place tells whether some mesh passes
pub place_tells : (test : Mesh → Bool) (ms : List Mesh) (o : Option ℕ) → o ≡ position test ms → is_some o ≡ list_any test ms
place_tells test ms None is = elim (cases_Bool (list_any test ms)) [
  | inr none ↦ sym none
  | inl some ↦ absurd (
      let one = any_passes Mesh test ms some in
      let two : true ≡ false = sym one.passes ∙ none_found_passes Mesh test ms (position_none test ms (sym is)) one.i one.x one.there in cc two)
]
place_tells test ms (Some place) is =
    let first = position_finds test ms place (sym is) in sym (any_passes_from_place test ms place first.this first.at first.passes)

-- some mesh runs where the list isn't empty
pub any_runs : (ms : List Mesh) (empty : Bool) → empty ≡ nat_eq (length ms) 0 → not empty ≡ list_any (λ mesh. true) ms
any_runs [] empty is = rw is refl
any_runs (x ∷ xs) empty is = rw (is ∙ ne_eqb (length (x ∷ xs)) 0 (λ none. omega (arith, none))) refl
