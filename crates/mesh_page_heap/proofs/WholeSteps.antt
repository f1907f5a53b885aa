-- A whole mesh is `begin` and all its steps, whatever other meshes run.
use Rattle.std.proofs.Common.{◌≡◌, ℕ, zero, suc, ◌+◌, ◌-◌, ◌*◌, ◌<◌, Bool, not, nat_eq, find, List, [], ◌∷◌, ◌++◌, Some, Ok, ap, append-nil, refl, sym, ◌∙◌, arith, inl, inr}
use Rattle.std.proofs.lemmas.Bool.{eq-eqb, le-leb, lt-leb}
use Rattle.std.proofs.lemmas.Bool.Decides.{eqb_tells}
use Rattle.std.proofs.lemmas.List.{map-append}
use Rattle.std.proofs.lemmas.List.Elements.{filter-append}
use Rattle.mesh_class.specs.Classes.{pages_of, slots_of}
use Rattle.model_heap.proofs.MayBegin.{MayBegin, may_begin_gives, may_begin_sound}
use Rattle.model_heap.proofs.GroupPages.{found_sound}
use Rattle.model_heap.proofs.MeshLists.{same_mesh}
use Rattle.model_heap.proofs.TableChanges.{class_paged}
use Rattle.model_heap.proofs.WholeMeshes.{free_next}
use Rattle.model_heap.specs.Mesh.{Pair, begin, free_after, is_mesh, kind_after, may_begin, merged, mesh_in, mesh_whole, page_count, step, step_count, stepped, table_after, with_progress, without_mesh}
use Rattle.model_heap.specs.MeshLaws.{steps_of_class}
use Rattle.model_heap.specs.Sound.{IsSound, meshes_of}
use Rattle.model_heap.specs.Table.{Counted, Group, Made, Mesh, Progress, Table, group_of, has_number}
use Rattle.model_heap.specs.TableLaws.{IsBusyTest}
use Rattle.model_words.proofs.Chains.{went_on}
use Rattle.mesh_page_heap.proofs.MeshPlaces.{none_changed}

-- a mesh behind others, none of which is of its class, is the one that is found
found_last : (ms : List Mesh) (this : Mesh) → meshes_of this.class ms ≡ 0 → find (λ mesh. nat_eq mesh.class this.class) (ms ++ this ∷ []) ≡ Some this
found_last [] this none = rw (eq-eqb this.class this.class refl) refl
found_last (x ∷ xs) this none = elim (eqb_tells x.class this.class) [
  | inl same ↦ absurd (let more : 1 + meshes_of this.class xs ≡ 0 = rw same.0 at none in omega (arith, more))
  | inr other ↦ let sum : 0 + meshes_of this.class xs ≡ 0 = rw other.0 at none in rw other.0 (found_last xs this (omega (arith, sum)))
]

-- its progress changes behind the others
progress_last : (ms : List Mesh) (this : Mesh) (progress : Progress) → with_progress ms this progress ≡ ms
    → with_progress (ms ++ this ∷ []) this progress ≡ ms ++ record this { progress = progress } ∷ []
progress_last ms this progress others = grind (arith, map-append)

-- and it goes from behind them
without_last : (ms : List Mesh) (this : Mesh) → without_mesh ms this ≡ ms → without_mesh (ms ++ this ∷ []) this ≡ ms
without_last ms this others =
    filter-append (λ mesh. not (is_mesh this mesh)) ms (this ∷ []) ∙ ap (λ (xs : List Mesh). xs ++ without_mesh (this ∷ []) this) others
    ∙ (rw (same_mesh this) (append-nil ms))

-- a mesh of which so many steps were made, and the table with it
abbrev mesh_made : Group → ℕ → ℕ → ℕ → Mesh
mesh_made a s d made = record { class = a.class; source = s; destination = d; progress = Made made }

abbrev table_made : Table → Group → ℕ → ℕ → ℕ → Table
table_made t a s d made = record t {
  free_pages = t.free_pages + (made - (3 * page_count a + slots_of a.class));
  meshes = t.meshes ++ mesh_made a s d made ∷ [];
}

-- the table once the mesh has ended
abbrev table_ended : Table → Group → ℕ → Table
table_ended t a d = record t { free_pages = t.free_pages + pages_of a.class; groups = merged t.groups a d }

-- a mesh of two groups that may begin, behind meshes of other classes
module _ (busy : Table → ℕ → Bool) (t : Table) (s d : ℕ) (pair : Pair) (sound : IsSound t) (may : MayBegin busy t s d pair)
    (idle : meshes_of pair.source.class t.meshes ≡ 0) where
  -- its next step
  next_made : (made : ℕ) → step (table_made t pair.source s d made) (mesh_in (table_made t pair.source s d made) pair.source.class)
      ≡ Ok (stepped (table_made t pair.source s d made) (mesh_made pair.source s d made) pair.source (Made made))
  next_made made = rw (found_last t.meshes (mesh_made pair.source s d made) idle, may.source_is) refl

  -- the free pages after it
  freed : (made : ℕ) → free_after (kind_after pair.source made) (t.free_pages + (made - (3 * page_count pair.source + slots_of pair.source.class)))
      ≡ t.free_pages + (made + 1 - (3 * page_count pair.source + slots_of pair.source.class))
  freed made = let sum = free_next pair.source made (t.free_pages + (made - (3 * page_count pair.source + slots_of pair.source.class))) in omega (arith, sum)

  -- the table after a step that isn't the last
  table_next : (made : ℕ) → made + 1 < step_count pair.source
      → table_after (table_made t pair.source s d made) (mesh_made pair.source s d made) pair.source made ≡ table_made t pair.source s d (made + 1)
  table_next made below =
      let this : Mesh = mesh_made pair.source s d made in
      let is = may_begin_sound busy t s d pair (Made made) may (omega (arith, below)) in
      rw (
        lt-leb (step_count pair.source) (made + 1) below,
        freed made,
        progress_last t.meshes this (Made (made + 1)) (none_changed t t.meshes this (Made (made + 1)) is sound.meshes idle).0,
      ) refl

  -- and after the last one
  table_last : (made : ℕ) → made + 1 ≡ step_count pair.source
      → table_after (table_made t pair.source s d made) (mesh_made pair.source s d made) pair.source made ≡ table_ended t pair.source d
  table_last made last =
      let this : Mesh = mesh_made pair.source s d made in
      let is = may_begin_sound busy t s d pair (Made made) may (omega (arith, last)) in
      let pages : made + 1 - (3 * page_count pair.source + slots_of pair.source.class) ≡ pages_of pair.source.class = omega (arith, last) in
      rw (
        le-leb (step_count pair.source) (made + 1) (omega (arith, last)),
        freed made,
        pages,
        without_last t.meshes this (none_changed t t.meshes this this.progress is sound.meshes idle).1,
      ) refl

  -- all the steps that are left
  rest_made : (n made : ℕ) → suc n + made ≡ step_count pair.source
      → steps_of_class pair.source.class (suc n) (table_made t pair.source s d made) ≡ Ok (table_ended t pair.source d)
  rest_made zero made count = grind (arith, next_made, table_last)
  rest_made (suc n) made count = grind (arith, next_made, table_next, rest_made n (made + 1) (omega (arith, count)))

  -- and so all of them
  all_made : steps_of_class pair.source.class (step_count pair.source) (record t { meshes = t.meshes ++ mesh_made pair.source s d 0 ∷ [] })
      ≡ Ok (table_ended t pair.source d)
  all_made =
      let pages = class_paged pair.source.class (found_sound t (has_number s) pair.source sound may.source_is).class in
      let count : step_count pair.source ≡ suc (step_count pair.source - 1) = omega (arith, pages) in
      ap (λ (n : ℕ). steps_of_class pair.source.class n (record t { meshes = t.meshes ++ mesh_made pair.source s d 0 ∷ [] })) count
      ∙ ap (λ (n : ℕ). steps_of_class pair.source.class (suc (step_count pair.source - 1))
      (record t { free_pages = n; meshes = t.meshes ++ mesh_made pair.source s d 0 ∷ [] })) (omega arith)
      ∙ rest_made (step_count pair.source - 1) 0 (omega (arith, count))

-- what a mesh that began comes to by all its steps
pub record IsWholeBy (busy : Table → ℕ → Bool) (t : Table) (s d : ℕ) (begun : Counted) : Type 0 where
  pub source : Group
  pub ended : Table
  pub there : group_of t s ≡ Some source
  pub groups : begun.table.groups ≡ t.groups
  pub whole : mesh_whole busy t s d ≡ Ok (record { count = pages_of source.class; table = ended })
  pub steps : steps_of_class source.class begun.count begun.table ≡ Ok ended

-- what two groups that may begin a mesh come to by a whole one
whole_gives : (busy : Table → ℕ → Bool) (t : Table) (s d : ℕ) (pair : Pair) → may_begin busy t s d ≡ Ok pair
    → mesh_whole busy t s d ≡ Ok (record { count = pages_of pair.source.class; table = table_ended t pair.source d })
whole_gives busy t s d pair may = rw may refl

-- a whole mesh is `begin` and all its steps
pub whole_by_class : (busy : Table → ℕ → Bool) (t : Table) (s d : ℕ) (begun : Counted) → IsBusyTest busy t → IsSound t → begin busy t s d ≡ Ok begun
    → IsWholeBy busy t s d begun
whole_by_class busy t s d begun test sound began =
    let pair = went_on (may_begin busy t s d) _ begun began in
    let a : Group = pair.value.source in
    let may = may_begin_gives busy t s d pair.value pair.is in
    let same : record { count = step_count a; table = record t { meshes = t.meshes ++ mesh_made a s d 0 ∷ [] } } ≡ begun = (let then = pair.then in cc then) in
    record {
      source = a;
      ended = table_ended t a d;
      there = may.source_is;
      groups = ap (λ (x : Counted). x.table.groups) (sym same);
      whole = whole_gives busy t s d pair.value pair.is;
      steps = ap (λ (x : Counted). steps_of_class a.class x.count x.table) (sym same) ∙ all_made busy t s d pair.value sound may (test a.class may.idle);
    }
