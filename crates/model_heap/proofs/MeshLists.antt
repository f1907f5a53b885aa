-- What a change leaves of a list of running meshes.
use Rattle.std.proofs.Common.{◌≡◌, ◌≢◌, ℕ, ◌+◌, ◌≤◌, Bool, true, false, cond, nat_eq, List, [], ◌∷◌, ◌++◌, map, filter, find, refl, arith, inl, inr, Option, Some, None, true≢false}
use Rattle.std.specs.List.{list_any}
use Rattle.model_words.proofs.Tests.{tells}
use Rattle.model_heap.proofs.GroupLists.{find_mapped}
use Rattle.model_heap.specs.Mesh.{do_overlap, is_mesh, mesh_at, with_progress, without_mesh}
use Rattle.model_heap.specs.Sound.{IsWithinSteps, IsSoundMesh, AreSoundMeshes, meshes_of}
use Rattle.model_heap.specs.Table.{Slot, Group, Progress, Mesh, Table, group_of, takes_part, emptied_of, without_object}

-- a mesh whose groups stay is sound
pub mesh_kept : (t u : Table) (mesh : Mesh) (sound : IsSoundMesh t mesh) → group_of u mesh.source ≡ Some sound.source
    → group_of u mesh.destination ≡ Some sound.destination → IsSoundMesh u mesh
mesh_kept t u mesh sound source destination = grind arith

-- meshes whose groups stay are sound
pub meshes_kept : (t u : Table) (ms : List Mesh) → ((n : ℕ) (g : Group) → group_of t n ≡ Some g → group_of u n ≡ Some g) → AreSoundMeshes t ms
    → AreSoundMeshes u ms
meshes_kept t u [] keeps sound = tt
meshes_kept t u (m ∷ ms) keeps sound = grind (arith, meshes_kept t u ms keeps sound.1)

-- a group in none of the meshes may change
pub meshes_outside : (t u : Table) (n : ℕ) (ms : List Mesh) → ((m : ℕ) (g : Group) → m ≢ n → group_of t m ≡ Some g → group_of u m ≡ Some g)
    → list_any (takes_part n) ms ≡ false → AreSoundMeshes t ms → AreSoundMeshes u ms
meshes_outside t u n [] keeps outside sound = tt
meshes_outside t u n (m ∷ ms) keeps outside sound = grind (arith, meshes_outside t u n ms keeps)

-- groups of a class that none of the meshes is of may change
pub meshes_elsewhere : (t u : Table) (class : ℕ) (ms : List Mesh)
    → ((n : ℕ) (g : Group) → g.class ≢ class → group_of t n ≡ Some g → group_of u n ≡ Some g) → meshes_of class ms ≡ 0 → AreSoundMeshes t ms
    → AreSoundMeshes u ms
meshes_elsewhere t u class [] keeps none sound = tt
meshes_elsewhere t u class (m ∷ ms) keeps none sound = grind (arith, meshes_elsewhere t u class ms keeps)

-- the mesh found is sound
pub mesh_found : (t : Table) (test : Mesh → Bool) (ms : List Mesh) (m : Mesh) → find test ms ≡ Some m → AreSoundMeshes t ms → IsSoundMesh t m
mesh_found t test [] m h sound = absurd (cc)
mesh_found t test (x ∷ xs) m h sound = grind (arith, mesh_found t test xs m)

-- some of sound meshes are sound
pub meshes_filtered : (t : Table) (test : Mesh → Bool) (ms : List Mesh) → AreSoundMeshes t ms → AreSoundMeshes t (filter test ms)
meshes_filtered t test [] sound = tt
meshes_filtered t test (x ∷ xs) sound = grind (arith, meshes_filtered t test xs sound.1)

-- some of the meshes are no more of a class than all
pub meshes_of-filtered : (class : ℕ) (test : Mesh → Bool) (ms : List Mesh) → meshes_of class (filter test ms) ≤ meshes_of class ms
meshes_of-filtered class test [] = omega arith
meshes_of-filtered class test (x ∷ xs) = grind (arith, meshes_of-filtered class test xs)

-- the mesh at another progress is of the same class
class_at : (this : Mesh) (progress : Progress) (m : Mesh) → (mesh_at this progress m).class ≡ m.class
class_at this progress m = elim (tells (is_mesh this m)) [ inl same ↦ rw same refl | inr other ↦ rw other refl ]

-- another progress changes no mesh's class
pub meshes_of-progress : (class : ℕ) (this : Mesh) (progress : Progress) (ms : List Mesh)
    → meshes_of class (with_progress ms this progress) ≡ meshes_of class ms
meshes_of-progress class this progress [] = refl
meshes_of-progress class this progress (x ∷ xs) = rw (class_at this progress x, meshes_of-progress class this progress xs) refl

-- a mesh stays sound where one comes to a progress within its steps
mesh_progress : (t : Table) (this : Mesh) (progress : Progress) (m : Mesh) → ((a : Group) → group_of t this.source ≡ Some a → IsWithinSteps a progress)
    → IsSoundMesh t m → IsSoundMesh t (mesh_at this progress m)
mesh_progress t this progress m fits sound = grind arith

-- meshes stay sound where one comes to a progress within its steps
pub meshes_progress : (t : Table) (this : Mesh) (progress : Progress) (ms : List Mesh)
    → ((a : Group) → group_of t this.source ≡ Some a → IsWithinSteps a progress) → AreSoundMeshes t ms → AreSoundMeshes t (with_progress ms this progress)
meshes_progress t this progress [] fits sound = tt
meshes_progress t this progress (x ∷ xs) fits sound = (mesh_progress t this progress x fits sound.0, meshes_progress t this progress xs fits sound.1)

-- a mesh is the same as itself
pub same_mesh : (m : Mesh) → is_mesh m m ≡ true
same_mesh m = grind arith

-- without a mesh there is one less of its class
pub without_fewer : (class : ℕ) (test : Mesh → Bool) (ms : List Mesh) (this : Mesh) → find test ms ≡ Some this → this.class ≡ class
    → meshes_of class (without_mesh ms this) + 1 ≤ meshes_of class ms
without_fewer class test [] this h is = absurd (cc)
without_fewer class test (x ∷ xs) this h is = grind (arith, meshes_of-filtered class, without_fewer class test xs this)

-- a sound mesh more
pub meshes_more : (t : Table) (ms : List Mesh) (m : Mesh) → IsSoundMesh t m → AreSoundMeshes t ms → AreSoundMeshes t (ms ++ m ∷ [])
meshes_more t [] m new sound = (new, tt)
meshes_more t (x ∷ xs) m new sound = (sound.0, meshes_more t xs m new sound.1)

-- one mesh more of its class
pub meshes_of-more : (class : ℕ) (ms : List Mesh) (m : Mesh) → meshes_of class (ms ++ m ∷ []) ≡ meshes_of class ms + cond (nat_eq m.class class) 1 0
meshes_of-more class [] m = omega arith
meshes_of-more class (x ∷ xs) m = let rest = meshes_of-more class xs m in omega (arith, rest)

-- emptied slots do not overlap where the slots did not
apart_emptied : (serial : ℕ) (xs ys : List (Option Slot)) → do_overlap xs ys ≡ false
    → do_overlap (map (emptied_of serial) xs) (map (emptied_of serial) ys) ≡ false
apart_emptied serial [] ys h = refl
apart_emptied serial (x ∷ xs) [] h = refl
apart_emptied serial (Some x ∷ xs) (Some y ∷ ys) h = absurd (true≢false h)
apart_emptied serial (None ∷ xs) (Some y ∷ ys) h = apart_emptied serial xs ys h
apart_emptied serial (None ∷ xs) (None ∷ ys) h = apart_emptied serial xs ys h
apart_emptied serial (Some x ∷ xs) (None ∷ ys) h = grind (arith, apart_emptied serial xs ys h)

-- meshes stay sound where an object leaves
pub meshes_emptied : (t : Table) (serial : ℕ) (ms : List Mesh) → AreSoundMeshes t ms → AreSoundMeshes (without_object t serial) ms
meshes_emptied t serial [] sound = tt
meshes_emptied t serial (m ∷ ms) sound =
    grind (arith, find_mapped, apart_emptied serial sound.0.source.slots sound.0.destination.slots sound.0.apart, meshes_emptied t serial ms sound.1)

-- where no mesh is running, none of a class is
pub any_tells : (class : ℕ) (ms : List Mesh) → list_any (λ mesh. true) ms ≡ false → meshes_of class ms ≡ 0
any_tells class [] h = refl
any_tells class (m ∷ ms) h = absurd (true≢false h)

-- where no mesh of the class is running, there is none
pub class_tells : (class : ℕ) (ms : List Mesh) → list_any (λ mesh. nat_eq mesh.class class) ms ≡ false → meshes_of class ms ≡ 0
class_tells class [] h = refl
class_tells class (m ∷ ms) h = grind (arith, class_tells class ms)
