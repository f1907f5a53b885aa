-- A whole mesh, step by step.
use Rattle.std.proofs.Common.{◌≡◌, ℕ, zero, suc, ◌+◌, ◌-◌, ◌*◌, ◌<◌, ◌≤◌, true, false, List, [], ◌∷◌, Some, Ok, ap, refl, arith}
use Rattle.std.specs.List.{list_any}
use Rattle.std.proofs.lemmas.Bool.{true≢false}
use Rattle.model_words.specs.Classes.{pages_of, slots_of}
use Rattle.model_heap.specs.MeshLaws.{steps_made, HasPages}
use Rattle.model_heap.specs.Mesh.{page_count, step_count, kind_after, free_after, table_after, merged, any_mesh, may_begin, begin, mesh_whole}
use Rattle.model_heap.specs.Table.{Group, Progress, Made, Mesh, Table, group_of, Counted}
use Rattle.model_heap.proofs.MayBegin.{may_begin_gives}
use Rattle.model_words.proofs.Chains.{went_on}

-- a release comes after all other steps
pub free_next : (a : Group) (d f : ℕ) → free_after (kind_after a d) f + (d - (3 * page_count a + slots_of a.class)) ≡ f + (d + 1 - (3 * page_count a + slots_of a.class))
free_next a d f = grind arith

-- the one mesh of a table, at a progress
abbrev at_progress : Group → ℕ → ℕ → Progress → Mesh
at_progress a source destination progress = record { class = a.class; source = source; destination = destination; progress = progress }

-- the table after d steps of its one mesh
abbrev after : Table → Group → ℕ → ℕ → ℕ → Table
after t a source destination d = record t {
  free_pages = t.free_pages + (d - (3 * page_count a + slots_of a.class));
  meshes = at_progress a source destination (Made d) ∷ [];
}

-- the table after the last step
abbrev ended : Table → Group → ℕ → Table
ended t a destination = record t { free_pages = t.free_pages + pages_of a.class; meshes = []; groups = merged t.groups a destination }

next_table : (t : Table) (a : Group) (source destination d : ℕ) → d + 1 < step_count a
    → table_after (after t a source destination d) (at_progress a source destination (Made d)) a d ≡ after t a source destination (d + 1)
next_table t a source destination d h = grind arith

last_table : (t : Table) (a : Group) (source destination d : ℕ) → d + 1 ≡ step_count a
    → table_after (after t a source destination d) (at_progress a source destination (Made d)) a d ≡ ended t a destination
last_table t a source destination d h = grind arith

pub all_steps : (n : ℕ) (t : Table) (a : Group) (source destination d : ℕ) → group_of t source ≡ Some a → suc n + d ≡ step_count a
    → steps_made (suc n) (after t a source destination d) ≡ Ok (ended t a destination)
all_steps zero t a source destination d found h = rw found (ap Ok (last_table t a source destination d (omega (arith, h))))
all_steps (suc n) t a source destination d found h =
    rw found (rw (next_table t a source destination d (omega (arith, h))) (all_steps n t a source destination (d + 1) found (omega (arith, h))))

no_mesh : (meshes : List Mesh) → list_any (λ mesh. true) meshes ≡ false → meshes ≡ []
no_mesh [] h = refl
no_mesh (m ∷ ms) h = absurd (true≢false h)

-- a mesh begun makes all its steps
begun_steps : (t : Table) (a : Group) (source destination : ℕ) → group_of t source ≡ Some a → 1 ≤ pages_of a.class → t.meshes ≡ []
    → steps_made (step_count a) (record t { meshes = at_progress a source destination (Made 0) ∷ [] })
    ≡ Ok (record t { free_pages = t.free_pages + pages_of a.class; meshes = []; groups = merged t.groups a destination })
begun_steps t a source destination found some none = grind (arith, all_steps (step_count a - 1) t a source destination 0 found)

-- a whole mesh is `begin` and all its steps
pub whole_by_steps : (t : Table) (source destination : ℕ) (whole begun : Counted) → HasPages t source
    → mesh_whole any_mesh t source destination ≡ Ok whole → begin any_mesh t source destination ≡ Ok begun
    → steps_made begun.count begun.table ≡ Ok whole.table
whole_by_steps t source destination whole begun pages h g =
    let pair = went_on (may_begin any_mesh t source destination) _ whole h in
    let may = may_begin_gives any_mesh t source destination pair.value pair.is in
    grind (arith, no_mesh t.meshes may.idle, begun_steps t pair.value.source source destination may.source_is)
