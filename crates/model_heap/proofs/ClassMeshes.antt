-- A whole mesh, step by step, beside running meshes of other classes.
use Rattle.std.proofs.Common.{◌≡◌, ℕ, zero, suc, ◌+◌, ◌-◌, ◌*◌, ◌<◌, Bool, List, [], ◌∷◌, ◌++◌, filter, not, ap, refl, ◌∙◌, arith, Ok, append-nil}
use Rattle.std.proofs.lemmas.List.{map-append}
use Rattle.std.proofs.lemmas.List.Elements.{filter-append}
use Rattle.model_heap.proofs.MayBegin.{MayBegin}
use Rattle.model_words.proofs.Chains.{went_on}
use Rattle.model_heap.proofs.GroupLists.{find_sound}
use Rattle.model_heap.proofs.MeshLists.{same_mesh}
use Rattle.model_heap.proofs.OneMesh.{at, found_more, none_at, none_without}
use Rattle.model_heap.proofs.RefusedSteps.{step_made}
use Rattle.model_heap.proofs.TableChanges.{class_paged}
use Rattle.model_words.specs.Classes.{pages_of, slots_of}
use Rattle.model_heap.specs.Mesh.{Pair, is_mesh, may_begin, merged, mesh_at, mesh_in, page_count, step, step_count, stepped, table_after, with_progress, without_mesh}
use Rattle.model_heap.specs.MeshLaws.{IsAllStepsOfClass, steps_of_class}
use Rattle.model_heap.specs.Sound.{IsSound, meshes_of}
use Rattle.model_heap.specs.Table.{Made, Mesh, Progress, Table, has_number}
use Rattle.model_heap.specs.TableLaws.{IsBusyTest}

-- another progress of the last mesh changes the last one alone, where no other is that one
progress_last : (ms : List Mesh) (this : Mesh) (progress : Progress) → with_progress ms this progress ≡ ms
    → with_progress (ms ++ this ∷ []) this progress ≡ ms ++ at this progress ∷ []
progress_last ms this progress others = grind (arith, map-append (mesh_at this progress) ms (this ∷ []))
  where
    own : mesh_at this progress this ≡ at this progress
    own = rw (same_mesh this) refl

-- the end of the last mesh leaves the others
without_last : (ms : List Mesh) (this : Mesh) → without_mesh ms this ≡ ms → without_mesh (ms ++ this ∷ []) this ≡ ms
without_last ms this others =
    filter-append (λ m. not (is_mesh this m)) ms (this ∷ []) ∙ ap (λ (xs : List Mesh). xs ++ filter (λ m. not (is_mesh this m)) (this ∷ [])) others
    ∙ ap (λ (xs : List Mesh). ms ++ xs) own ∙ append-nil ms
  where
    own : filter (λ m. not (is_mesh this m)) (this ∷ []) ≡ []
    own = rw (same_mesh this) refl

-- the mesh of two groups that may begin, at a progress
abbrev at_step : Pair → ℕ → ℕ → ℕ → Mesh
at_step pair source destination d = record { class = pair.source.class; source = source; destination = destination; progress = Made d }

-- the table after d steps of a mesh that came last
abbrev after : Table → Pair → ℕ → ℕ → ℕ → Table
after t pair source destination d = record t {
  free_pages = t.free_pages + (d - (3 * page_count pair.source + slots_of pair.source.class));
  meshes = t.meshes ++ at_step pair source destination d ∷ [];
}

-- the table after its last step
abbrev ended : Table → Pair → ℕ → Table
ended t pair destination = record t { free_pages = t.free_pages + pages_of pair.source.class; groups = merged t.groups pair.source destination }

-- the mesh of two groups that may begin, of a class of which none is running
module _ (busy : Table → ℕ → Bool) (t : Table) (source destination : ℕ) (pair : Pair) (sound : IsSound t) (may : MayBegin busy t source destination pair)
    (none : meshes_of pair.source.class t.meshes ≡ 0) where
  -- one step of the mesh that came last
  next_step : (d : ℕ) → step (after t pair source destination d) (mesh_in (after t pair source destination d) pair.source.class)
      ≡ Ok (stepped (after t pair source destination d) (at_step pair source destination d) pair.source (Made d))
  next_step d = step_made (after t pair source destination d) (at_step pair source destination d) pair.source
      (mesh_in (after t pair source destination d) pair.source.class) (found_more (at_step pair source destination d) t.meshes none) may.source_is

  -- the table after a step that isn't the last
  next_table : (d : ℕ) → d + 1 < step_count pair.source
      → table_after (after t pair source destination d) (at_step pair source destination d) pair.source d ≡ after t pair source destination (d + 1)
  next_table d more = grind (arith, progress_last, none_at t (at_step pair source destination d) (Made (d + 1)) t.meshes)

  -- the table after the last step
  last_table : (d : ℕ) → d + 1 ≡ step_count pair.source
      → table_after (after t pair source destination d) (at_step pair source destination d) pair.source d ≡ ended t pair destination
  last_table d last = grind (arith, without_last t.meshes (at_step pair source destination d), none_without t (at_step pair source destination d) t.meshes)

  -- all steps that are left of the mesh
  all_steps : (n d : ℕ) → suc n + d ≡ step_count pair.source
      → steps_of_class pair.source.class (suc n) (after t pair source destination d) ≡ Ok (ended t pair destination)
  all_steps zero d count = grind (arith, next_step d, last_table d)
  all_steps (suc n) d count = grind (arith, next_step d, next_table d, all_steps n (d + 1))

  -- all steps of a mesh begun
  begun_steps : steps_of_class pair.source.class (step_count pair.source) (record t { meshes = t.meshes ++ at_step pair source destination 0 ∷ [] })
      ≡ Ok (ended t pair destination)
  begun_steps =
      let paged = class_paged pair.source.class (find_sound (has_number source) t.groups pair.source may.source_is sound.groups).class in
      grind (arith, all_steps (step_count pair.source - 1) 0)

-- a whole mesh is `begin` and all steps of its class
pub whole_by_class : (busy : Table → ℕ → Bool) (t : Table) → IsBusyTest busy t → IsSound t → IsAllStepsOfClass busy t
whole_by_class busy t test sound source destination group whole begun h g is =
    grind (arith, went_on (may_begin busy t source destination) _ whole h, begun_steps busy t source destination)
