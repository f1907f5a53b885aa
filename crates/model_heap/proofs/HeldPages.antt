-- Meshes have released no more pages than groups have.
use Rattle.std.proofs.Common.{◌≡◌, ℕ, ◌≤◌, not, List, [], ◌∷◌, filter, find, sum_by, ap, refl, ◌∙◌, arith, Some}
use Rattle.std.proofs.lemmas.Bool.Decides.{nat_tests}
use Rattle.std.proofs.lemmas.List.Sums.{sum_by-cons}
use Rattle.model_heap.proofs.CountedPages.{given, span_of, span_without}
use Rattle.model_heap.proofs.GroupLists.{ascend_filtered, find_without_other}
use Rattle.model_heap.specs.PageCounts.{AreCounted, released_by, released_pages, span_pages}
use Rattle.model_heap.specs.Sound.{AreSoundMeshes, AscendBetween, IsSound, IsSoundMesh, IsWithinSteps, meshes_of}
use Rattle.model_heap.specs.Table.{Group, Made, Mesh, Progress, Table, Unwinding, group_of, has_number}

-- the sources of the meshes are among these groups
abbrev HaveSources : Table → List Group → List Mesh → Type 0
HaveSources t gs [] = Unit {0}
HaveSources t gs (m ∷ ms) = (find (has_number m.source) gs ≡ group_of t m.source) × HaveSources t gs ms

-- the sources of all meshes are among all groups
all_sources : (t : Table) (ms : List Mesh) → HaveSources t t.groups ms
all_sources t [] = tt
all_sources t (m ∷ ms) = (refl, all_sources t ms)

-- within its steps a mesh has released no more pages than its source has
few_released : (progress : Progress) (a : Group) → IsWithinSteps a progress → released_by progress (Some a) ≤ span_of a
few_released (Made d) a within = omega (arith, within)
few_released (Unwinding q u) a within = omega arith

-- without a source the sources of meshes of other classes are there
others_there : (t : Table) (gs : List Group) (m : Mesh) (ms : List Mesh) → IsSoundMesh t m → AreSoundMeshes t ms → meshes_of m.class ms ≡ 0
    → HaveSources t gs ms → HaveSources t (filter (λ g. not (has_number m.source g)) gs) ms
others_there t gs m [] sound meshes none have = tt
others_there t gs m (x ∷ xs) sound meshes none have = grind (arith, nat_tests, find_without_other m.source x.source gs, others_there t gs m xs)

-- meshes have released no more pages than groups have that hold their sources
few_given : (t : Table) (high : ℕ) (gs : List Group) (ms : List Mesh) → AscendBetween 0 gs high → AreSoundMeshes t ms
    → ((class : ℕ) → meshes_of class ms ≤ 1) → HaveSources t gs ms → sum_by (given t) ms ≤ sum_by span_of gs
few_given t high gs [] ascend meshes once have = omega arith
few_given t high gs (m ∷ ms) ascend meshes once have =
    let left : List Group = filter (λ g. not (has_number m.source g)) gs in
    let less = span_without m.source 0 high gs meshes.0.source ascend (have.0 ∙ meshes.0.source_is) in
    let rest = few_given t high left ms (ascend_filtered 0 high (λ g. not (has_number m.source g)) gs ascend) meshes.1
    (λ class. let all = once class in omega (arith, all)) (others_there t gs m ms meshes.0 meshes.1 none have.1) in
    let few = few_released m.progress meshes.0.source meshes.0.within in
    let here : given t m ≡ released_by m.progress (Some meshes.0.source) = ap (released_by m.progress) meshes.0.source_is in
    let all = sum_by-cons (given t) m ms in
    omega (arith, less, rest, few, here, all)
  where
    none : meshes_of m.class ms ≡ 0
    none = grind arith

-- meshes have released no more pages than groups have, and no more are free than there are
pub free_within : (pages : ℕ) (t : Table) → IsSound t → AreCounted pages t → (released_pages t ≤ span_pages t) × (t.free_pages ≤ pages)
free_within pages t sound counted =
    grind (arith, few_given t t.next_span t.groups t.meshes sound.numbers sound.meshes sound.one_a_class (all_sources t t.meshes))
