-- At most one mesh runs a class, and it is found by its class.
use Rattle.std.proofs.Common.{◌≡◌, ℕ, zero, suc, ◌≤◌, Bool, true, List, [], ◌∷◌, find, slice_get, refl, sym, arith, inl, inr, Some}
use Rattle.std.specs.List.{list_any}
use Rattle.model_words.proofs.Tests.{tells}
use Rattle.model_heap.specs.MeshLaws.{AtMostOneAClass}
use Rattle.model_heap.specs.Sound.{IsSound, meshes_of}
use Rattle.model_heap.specs.Table.{Mesh, Table}

-- a mesh at a place counts for its class
counts : (class : ℕ) (ms : List Mesh) (i : ℕ) (x : Mesh) → slice_get ms i ≡ Some x → x.class ≡ class → 1 ≤ meshes_of class ms
counts class [] i x h is = cc
counts class (m ∷ ms) zero x h is = grind arith
counts class (m ∷ ms) (suc i) x h is = let rest = counts class ms i x h is in omega (arith, rest)

-- a mesh first and one later are of two classes
first_apart : (m x y : Mesh) (ms : List Mesh) (j : ℕ) → meshes_of x.class (m ∷ ms) ≤ 1 → m ≡ x → slice_get ms j ≡ Some y → x.class ≡ y.class → ⊥
first_apart m x y ms j once here h same = grind (arith, counts x.class ms j y h)

-- two places of meshes of one class are one
one_place : (ms : List Mesh) (i j : ℕ) (x y : Mesh) → ((class : ℕ) → meshes_of class ms ≤ 1) → slice_get ms i ≡ Some x → slice_get ms j ≡ Some y
    → x.class ≡ y.class → i ≡ j
one_place [] i j x y once h h' same = cc
one_place (m ∷ ms) zero zero x y once h h' same = refl
one_place (m ∷ ms) zero (suc j) x y once h h' same = absurd (first_apart m x y ms j (once x.class) (cc h) h' same)
one_place (m ∷ ms) (suc i) zero x y once h h' same = absurd (first_apart m y x ms i (once y.class) (cc h') h (sym same))
one_place (m ∷ ms) (suc i) (suc j) x y once h h' same = grind (arith, one_place ms i j x y)

-- a sound table has at most one mesh a class
pub one_a_class : (t : Table) → IsSound t → AtMostOneAClass t
one_a_class t sound i j x y h h' same = one_place t.meshes i j x y sound.one_a_class h h' same

-- where some mesh passes one is found
pub some_found : (test : Mesh → Bool) (ms : List Mesh) → list_any test ms ≡ true → (this : Mesh) × (find test ms ≡ Some this)
some_found test [] h = cc
some_found test (m ∷ ms) h = elim (tells (test m)) [
  | inl pass ↦ (m, rw pass refl)
  | inr fail ↦ let later : list_any test ms ≡ true = rw fail at h in let rest = some_found test ms later in (rest.0, rw fail rest.1)
]

-- where one is found some mesh passes
pub found_some : (test : Mesh → Bool) (ms : List Mesh) (this : Mesh) → find test ms ≡ Some this → list_any test ms ≡ true
found_some test [] this h = cc
found_some test (m ∷ ms) this h = grind (arith, found_some test ms this)
