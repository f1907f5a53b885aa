-- How a changed list of meshes is seen through the mesh from each group.
use Rattle.std.proofs.lemmas.Bool.{cases_Bool, eq-eqb, eqb-true, ne_eqb}
use Rattle.std.proofs.Common.{◌≡◌, ◌≢◌, ℕ, zero, suc, ◌+◌, ◌≤◌, Bool, true, nat_eq, List, [], ◌∷◌, ◌++◌, Option, Some, None, find, slice_get, ap, refl, sym, ◌∙◌, arith, inl, inr}
use Rattle.std.proofs.lemmas.Bool.Decides.{eqb_tells}
use Rattle.mesh_class.specs.Classes.{slots_of}
use Rattle.model_heap.proofs.ListPlaces.{found_passes}
use Rattle.model_heap.proofs.MeshLists.{mesh_found, meshes_filtered, same_mesh, without_fewer}
use Rattle.model_heap.proofs.TableChanges.{one_group}
use Rattle.model_heap.specs.Mesh.{is_mesh, mesh_at, with_progress, without_mesh}
use Rattle.model_heap.specs.Sound.{AreSoundMeshes, IsSoundMesh, meshes_of}
use Rattle.model_heap.specs.Table.{Mesh, Group, Progress, Table, group_of}
use Rattle.mesh_page_heap.specs.Layout.{Layout, idle, page_total}
use Rattle.mesh_page_heap.specs.MeshLayouts.{mesh_from, stage_at, stage_of, stage_with}
use Rattle.mesh_page_heap.specs.StepChanges.{Moves}

-- two meshes of one source are of one class
pub same_class : (t : Table) (x y : Mesh) → IsSoundMesh t x → IsSoundMesh t y → x.source ≡ y.source → x.class ≡ y.class
same_class t x y a b same = sym a.source_class
    ∙ ap (λ (g : Group). g.class) (one_group t x.source a.source b.source a.source_is (ap (group_of t) same ∙ b.source_is)) ∙ b.source_class

-- a mesh of the list is counted in its class
pub counted : (ms : List Mesh) (i : ℕ) (m : Mesh) → slice_get ms i ≡ Some m → 1 ≤ meshes_of m.class ms
counted [] i m at = absurd (cc at)
counted (x ∷ xs) zero m at = let here : x ≡ m = cc at in rw (eq-eqb x.class m.class (ap (λ (y : Mesh). y.class) here)) (omega arith)
counted (x ∷ xs) (suc i) m at = let rest = counted xs i m at in omega (arith, rest)

-- and sound
pub listed_sound : (t : Table) (ms : List Mesh) (i : ℕ) (m : Mesh) → AreSoundMeshes t ms → slice_get ms i ≡ Some m → IsSoundMesh t m
listed_sound t [] i m sound at = absurd (cc at)
listed_sound t (x ∷ xs) zero m sound at = let here : x ≡ m = cc at in rw here at sound.0
listed_sound t (x ∷ xs) (suc i) m sound at = listed_sound t xs i m sound.1 at

-- a test that only meshes of its class pass finds the one mesh of its class
found_listed : (test : Mesh → Bool) (ms : List Mesh) (i : ℕ) (m : Mesh) → slice_get ms i ≡ Some m → meshes_of m.class ms ≤ 1 → test m ≡ true
    → ((j : ℕ) (x : Mesh) → slice_get ms j ≡ Some x → test x ≡ true → x.class ≡ m.class) → find test ms ≡ Some m
found_listed test [] i m at one pass same = absurd (cc at)
found_listed test (x ∷ xs) zero m at one pass same = let here : x ≡ m = cc at in rw (here, pass) refl
found_listed test (x ∷ xs) (suc i) m at one pass same = elim (cases_Bool (test x)) [
  | inl first ↦ absurd (
      let two : 1 + meshes_of m.class xs ≤ 1 = rw (eq-eqb x.class m.class (same 0 x refl first)) at one in omega (arith, two, counted xs i m at))
  | inr fail ↦ rw fail (found_listed test xs i m at (omega (arith, one)) pass (λ j. same (suc j)))
]

-- two meshes of a class are one
pub one_of_class : (ms : List Mesh) (i j : ℕ) (x y : Mesh) → ((class : ℕ) → meshes_of class ms ≤ 1) → slice_get ms i ≡ Some x → slice_get ms j ≡ Some y
    → x.class ≡ y.class → x ≡ y
one_of_class ms i j x y one at at' class =
    let test : Mesh → Bool = λ m. nat_eq m.class y.class in
    let first = found_listed test ms i x at (one x.class) (eq-eqb x.class y.class class) (λ k m there pass. eqb-true m.class y.class pass ∙ sym class) in
    let second = found_listed test ms j y at' (one y.class) (eq-eqb y.class y.class refl) (λ k m there pass. eqb-true m.class y.class pass) in
    let both : Some x ≡ Some y = sym first ∙ second in cc both

-- a mesh of the list is the one from its source
pub from_listed : (t : Table) (ms : List Mesh) (i : ℕ) (m : Mesh) → slice_get ms i ≡ Some m → AreSoundMeshes t ms
    → ((class : ℕ) → meshes_of class ms ≤ 1) → mesh_from m.source ms ≡ Some m
from_listed t ms i m at sound one = found_listed (λ x. nat_eq x.source m.source) ms i m at (one m.class) (eq-eqb m.source m.source refl)
    (λ j x there pass. same_class t x m (listed_sound t ms j x sound there) (listed_sound t ms i m sound at) (eqb-true x.source m.source pass))

-- so is a mesh that is found
pub from_found : (t : Table) (test : Mesh → Bool) (ms : List Mesh) (m : Mesh) → find test ms ≡ Some m → AreSoundMeshes t ms
    → ((class : ℕ) → meshes_of class ms ≤ 1) → mesh_from m.source ms ≡ Some m
from_found t test ms m h = let at = found_passes Mesh test ms m h in from_listed t ms at.0 m at.1

source_at : (this : Mesh) (progress : Progress) (m : Mesh) → (mesh_at this progress m).source ≡ m.source
source_at this progress m = elim (cases_Bool (is_mesh this m)) [ inl same ↦ rw same refl | inr other ↦ rw other refl ]

-- the mesh from the source has the new progress
progress_here : (ms : List Mesh) (this : Mesh) (progress : Progress) → mesh_from this.source ms ≡ Some this
    → mesh_from this.source (with_progress ms this progress) ≡ Some (record this { progress = progress })
progress_here [] this progress h = absurd (cc h)
progress_here (x ∷ xs) this progress h = elim (eqb_tells x.source this.source) [
  | inl same ↦ let is : Some x ≡ Some this = rw same.0 at h in let here : x ≡ this = cc is in
      rw (source_at this progress x, same.0, here, same_mesh this) refl
  | inr other ↦ let later : mesh_from this.source xs ≡ Some this = rw other.0 at h in
      rw (source_at this progress x, other.0) (progress_here xs this progress later)
]

-- every other mesh is as it was
progress_others : (ms : List Mesh) (this : Mesh) (progress : Progress) (n : ℕ) → n ≢ this.source
    → mesh_from n (with_progress ms this progress) ≡ mesh_from n ms
progress_others [] this progress n other = refl
progress_others (x ∷ xs) this progress n other = grind (arith, progress_others xs this progress n other)

-- no mesh is from the source of one that is of no class
pub none_left : (t : Table) (ms : List Mesh) (this : Mesh) → IsSoundMesh t this → AreSoundMeshes t ms → meshes_of this.class ms ≡ 0 → mesh_from this.source ms ≡ None
none_left t [] this is sound none = refl
none_left t (x ∷ xs) this is sound none = grind (arith, none_left t xs this is sound.1 (omega (arith, none)))

-- once a mesh is taken out, none is from its source
pub without_here : (t : Table) (ms : List Mesh) (this : Mesh) → AreSoundMeshes t ms → IsSoundMesh t this → meshes_of this.class ms ≤ 1
    → mesh_from this.source ms ≡ Some this → mesh_from this.source (without_mesh ms this) ≡ None
without_here t ms this sound is few found = grind (arith, without_fewer this.class, none_left t (without_mesh ms this) this is, meshes_filtered t)

pub without_others : (ms : List Mesh) (this : Mesh) (n : ℕ) → n ≢ this.source → mesh_from n (without_mesh ms this) ≡ mesh_from n ms
without_others [] this n other = refl
without_others (x ∷ xs) this n other = grind (arith, without_others xs this n other)

-- a mesh that comes to another progress moves its source's stage alone
pub progress_moves : (l : Layout) (ms : List Mesh) (this : Mesh) (progress : Progress) → mesh_from this.source ms ≡ Some this
    → Moves (stage_of l ms) (stage_of l (with_progress ms this progress)) this.source
    (stage_at (page_total l this.source) (slots_of (l.class this.source)) this.destination progress)
progress_moves l ms this progress found = record {
  here = ap (stage_with l this.source) (progress_here ms this progress found);
  others = λ m other. ap (stage_with l m) (progress_others ms this progress m other);
}

-- a mesh that ends leaves its source idle
pub without_moves : (t : Table) (l : Layout) (ms : List Mesh) (this : Mesh) → AreSoundMeshes t ms → ((class : ℕ) → meshes_of class ms ≤ 1)
    → mesh_from this.source ms ≡ Some this → Moves (stage_of l ms) (stage_of l (without_mesh ms this)) this.source (idle this.source)
without_moves t l ms this sound one found = record {
  here = ap (stage_with l this.source) (without_here t ms this sound (mesh_found t (λ mesh. nat_eq mesh.source this.source) ms this found sound) (one this.class) found);
  others = λ m other. ap (stage_with l m) (without_others ms this m other);
}

from_more : (ms : List Mesh) (this : Mesh) (n : ℕ) → n ≢ this.source → mesh_from n (ms ++ this ∷ []) ≡ mesh_from n ms
from_more [] this n other = rw (ne_eqb this.source n (λ e. other (sym e))) refl
from_more (x ∷ xs) this n other = elim (eqb_tells x.source n) [ inl same ↦ rw same.0 refl | inr no_ ↦ rw no_.0 (from_more xs this n other) ]

from_new : (ms : List Mesh) (this : Mesh) → mesh_from this.source ms ≡ None → mesh_from this.source (ms ++ this ∷ []) ≡ Some this
from_new [] this none = rw (eq-eqb this.source this.source refl) refl
from_new (x ∷ xs) this none = elim (eqb_tells x.source this.source) [
  | inl same ↦ absurd (let two : ◌≡◌ {A = Option Mesh} (Some x) None = rw same.0 at none in cc two)
  | inr other ↦ let later : mesh_from this.source xs ≡ None = rw other.0 at none in rw other.0 (from_new xs this later)
]

-- a mesh that begins
pub begin_moves : (l : Layout) (ms : List Mesh) (this : Mesh) → mesh_from this.source ms ≡ None
    → Moves (stage_of l ms) (stage_of l (ms ++ this ∷ [])) this.source
    (stage_at (page_total l this.source) (slots_of (l.class this.source)) this.destination this.progress)
begin_moves l ms this none = record {
  here = ap (stage_with l this.source) (from_new ms this none);
  others = λ m other. ap (stage_with l m) (from_more ms this m other);
}
