-- Fewer than ten meshes run before one begins.
use Rattle.std.proofs.Common.{◌≡◌, ℕ, ◌+◌, ◌<◌, ◌≤◌, if◌then◌else◌, nat_eq, List, [], ◌∷◌, IsSome, length, subst, refl, arith}
use Rattle.std.proofs.lemmas.Bool.Decides.{nat_tests}
use Rattle.model_heap.proofs.GroupPages.{found_sound}
use Rattle.model_heap.specs.Sound.{AreSoundMeshes, IsSound, IsSoundMesh, meshes_of}
use Rattle.model_heap.specs.Table.{Mesh, Table, has_number}
use Rattle.model_words.specs.Classes.{row_of}

-- how many meshes are of each of the ten classes
of_all : List Mesh → ℕ
of_all ms =
    meshes_of 16 ms + meshes_of 32 ms + meshes_of 64 ms + meshes_of 128 ms + meshes_of 256 ms + meshes_of 384 ms + meshes_of 512 ms + meshes_of 1024 ms
    + meshes_of 1536 ms + meshes_of 2048 ms

-- one if the class is the one
is_one : ℕ → ℕ → ℕ
is_one c k = if nat_eq c k then 1 else 0

-- a class of the table is one of the ten
one_of_ten : (c : ℕ) → IsSome (row_of c) → is_one c 16 + is_one c 32 + is_one c 64 + is_one c 128 + is_one c 256 + is_one c 384 + is_one c 512 + is_one c 1024
    + is_one c 1536 + is_one c 2048 ≡ 1
unfolding is_one
one_of_ten c h = grind (arith, nat_tests)

-- a running mesh is of a class of the table
mesh_class : (t : Table) (x : Mesh) → IsSound t → IsSoundMesh t x → IsSome (row_of x.class)
mesh_class t x sound is = subst (λ (c : ℕ). IsSome (row_of c)) is.source_class (found_sound t (has_number x.source) is.source sound is.source_is).class

-- each mesh is counted in its class
all_counted : (t : Table) (ms : List Mesh) → IsSound t → AreSoundMeshes t ms → length ms ≡ of_all ms
unfolding of_all is_one
all_counted t [] sound each = refl
all_counted t (x ∷ xs) sound each =
    let rest = all_counted t xs sound each.1 in
    let one = one_of_ten x.class (mesh_class t x sound each.0) in
    omega (arith, rest, one)

-- where no mesh of a class runs, fewer than ten run
pub few_meshes : (t : Table) (class : ℕ) → IsSound t → IsSome (row_of class) → meshes_of class t.meshes ≡ 0 → length t.meshes < 10
unfolding of_all is_one
few_meshes t class sound row none =
    let all = all_counted t t.meshes sound sound.meshes in
    let one = one_of_ten class row in
    let a = at 16 in let b = at 32 in let c = at 64 in let d = at 128 in let e = at 256 in
    let f = at 384 in let g = at 512 in let h = at 1024 in let i = at 1536 in let j = at 2048 in
    omega (arith, all, one, a, b, c, d, e, f, g, h, i, j)
  where
    at : (k : ℕ) → (if nat_eq class k then 1 else 0) + meshes_of k t.meshes ≤ 1
    at k = grind arith
