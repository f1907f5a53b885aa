-- What a change of one mesh leaves of a list of meshes of which no two are of its class.
use Rattle.std.proofs.Common.{◌≡◌, ◌≢◌, ℕ, ◌+◌, ◌≤◌, Bool, true, false, nat_eq, List, [], ◌∷◌, ◌++◌, find, sum_by, ap, refl, sym, ◌∙◌, arith, ◌⊎◌, inl, inr, Some, None}
use Rattle.std.proofs.lemmas.Bool.Decides.{nat_tests, eqb_tells}
use Rattle.std.proofs.lemmas.List.Sums.{sum_by-cons}
use Rattle.model_heap.proofs.MeshLists.{mesh_found}
use Rattle.model_heap.specs.Mesh.{is_mesh, with_progress, without_mesh}
use Rattle.model_heap.specs.Sound.{AreSoundMeshes, IsSoundMesh, meshes_of}
use Rattle.model_heap.specs.Table.{Mesh, Progress, Table}

-- the mesh at another progress
abbrev pub at : Mesh → Progress → Mesh
at mesh progress = record mesh { progress = progress }

-- a test that does not look at the progress
abbrev pub IgnoresProgress : (Mesh → Bool) → Type 0
IgnoresProgress test = (m : Mesh) (progress : Progress) → test (at m progress) ≡ test m

-- the same mesh is of the same class
same_class : (t : Table) (this m : Mesh) → IsSoundMesh t this → IsSoundMesh t m → is_mesh this m ≡ true → m.class ≡ this.class
same_class t this m sound sound' h = grind arith

-- another progress of a mesh changes no meshes of which none is of its class
pub none_at : (t : Table) (this : Mesh) (progress : Progress) (ms : List Mesh) → IsSoundMesh t this → AreSoundMeshes t ms → meshes_of this.class ms ≡ 0
    → with_progress ms this progress ≡ ms
none_at t this progress [] sound meshes none = refl
none_at t this progress (m ∷ ms) sound meshes none = grind (arith, none_at t this progress ms sound meshes.1)

-- nor does its end
pub none_without : (t : Table) (this : Mesh) (ms : List Mesh) → IsSoundMesh t this → AreSoundMeshes t ms → meshes_of this.class ms ≡ 0
    → without_mesh ms this ≡ ms
none_without t this [] sound meshes none = refl
none_without t this (m ∷ ms) sound meshes none = grind (arith, none_without t this ms sound meshes.1)

-- what is known of the first of some meshes: it is the one, and none of the others is of its class, or it is another
first_mesh_or_later : (t : Table) (test : Mesh → Bool) (this m : Mesh) (ms : List Mesh) → find test (m ∷ ms) ≡ Some this → AreSoundMeshes t (m ∷ ms)
    → meshes_of this.class (m ∷ ms) ≤ 1
    → ((m ≡ this) × (meshes_of this.class ms ≡ 0)) ⊎ ((test m ≡ false) × (find test ms ≡ Some this) × (is_mesh this m ≡ false) × (meshes_of this.class ms ≤ 1))
first_mesh_or_later t test this m ms found sound once = grind (arith, counted this ms, mesh_found t test ms this, same_class t this m)
  where
    counted : (this : Mesh) (ms : List Mesh) → find test ms ≡ Some this → 1 ≤ meshes_of this.class ms
    counted this [] h = cc
    counted this (x ∷ xs) h = grind (arith, nat_tests, counted this xs)

-- a sum over the meshes changes with the one that comes to another progress
pub sum_at : (t : Table) (test : Mesh → Bool) (this : Mesh) (progress : Progress) (f : Mesh → ℕ) (ms : List Mesh) → find test ms ≡ Some this
    → AreSoundMeshes t ms → meshes_of this.class ms ≤ 1 → sum_by f (with_progress ms this progress) + f this ≡ sum_by f ms + f (at this progress)
sum_at t test this progress f [] found sound once = cc
sum_at t test this progress f (m ∷ ms) found sound once =
    grind (arith, nat_tests, first_mesh_or_later t test this m ms found sound once, none_at t this progress ms, sum_by-cons, sum_at t test this progress f ms)

-- a sum over the meshes without one has its part less
pub sum_without : (t : Table) (test : Mesh → Bool) (this : Mesh) (f : Mesh → ℕ) (ms : List Mesh) → find test ms ≡ Some this → AreSoundMeshes t ms
    → meshes_of this.class ms ≤ 1 → sum_by f (without_mesh ms this) + f this ≡ sum_by f ms
sum_without t test this f [] found sound once = cc
sum_without t test this f (m ∷ ms) found sound once =
    grind (arith, first_mesh_or_later t test this m ms found sound once, none_without t this ms, sum_without t test this f ms, sum_by-cons)

-- the mesh is found at its other progress
pub found_at : (test : Mesh → Bool) (this : Mesh) (progress : Progress) (ms : List Mesh) → IgnoresProgress test → find test ms ≡ Some this
    → find test (with_progress ms this progress) ≡ Some (at this progress)
found_at test this progress [] ignores found = cc
found_at test this progress (m ∷ ms) ignores found = grind (arith, nat_tests, found_at test this progress ms ignores, ignores this progress, ignores m progress)

-- the mesh of a class
abbrev pub of_class : ℕ → Mesh → Bool
of_class class mesh = nat_eq mesh.class class

-- where none of the meshes is of a class none is found
pub none_found : (class : ℕ) (ms : List Mesh) → meshes_of class ms ≡ 0 → find (of_class class) ms ≡ None
none_found class [] none = refl
none_found class (m ∷ ms) none = elim (eqb_tells m.class class) [
  | inl same ↦ let some : 1 + meshes_of class ms ≡ 0 = rw same.0 at none in absurd (omega (arith, some))
  | inr other ↦ let rest : 0 + meshes_of class ms ≡ 0 = rw other.0 at none in rw other.0 (none_found class ms (omega (arith, rest)))
]

-- the mesh found is of the class
pub found_class : (class : ℕ) (ms : List Mesh) (this : Mesh) → find (of_class class) ms ≡ Some this → this.class ≡ class
found_class class [] this found = cc
found_class class (m ∷ ms) this found = elim (eqb_tells m.class class) [
  | inl same ↦ let is : Some m ≡ Some this = rw same.0 at found in let here : m ≡ this = cc is in ap (λ (x : Mesh). x.class) (sym here) ∙ same.1
  | inr other ↦ let later : find (of_class class) ms ≡ Some this = rw other.0 at found in found_class class ms this later
]

-- another progress of a mesh of another class changes no mesh that is found
pub found_beside : (t : Table) (class : ℕ) (this : Mesh) (progress : Progress) (ms : List Mesh) → IsSoundMesh t this → AreSoundMeshes t ms
    → this.class ≢ class → find (of_class class) (with_progress ms this progress) ≡ find (of_class class) ms
found_beside t class this progress [] sound meshes apart = refl
found_beside t class this progress (m ∷ ms) sound meshes apart = grind (arith, found_beside t class this progress ms sound meshes.1 apart)

-- nor does its end
pub found_without : (t : Table) (class : ℕ) (this : Mesh) (ms : List Mesh) → IsSoundMesh t this → AreSoundMeshes t ms
    → this.class ≢ class → find (of_class class) (without_mesh ms this) ≡ find (of_class class) ms
found_without t class this [] sound meshes apart = refl
found_without t class this (m ∷ ms) sound meshes apart = grind (arith, found_without t class this ms sound meshes.1 apart)

-- a mesh of a class that no mesh was of is found
pub found_more : (m : Mesh) (ms : List Mesh) → meshes_of m.class ms ≡ 0 → find (of_class m.class) (ms ++ m ∷ []) ≡ Some m
found_more m [] none = elim (eqb_tells m.class m.class) [ inl same ↦ rw same.0 refl | inr other ↦ absurd (other.1 refl) ]
found_more m (x ∷ xs) none = elim (eqb_tells x.class m.class) [
  | inl same ↦ let some : 1 + meshes_of m.class xs ≡ 0 = rw same.0 at none in absurd (omega (arith, some))
  | inr other ↦ let rest : 0 + meshes_of m.class xs ≡ 0 = rw other.0 at none in rw other.0 (found_more m xs (omega (arith, rest)))
]
