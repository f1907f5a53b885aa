-- What a mesher's calls do to a heap: the memory that the heap represents is unchanged, and the table is as defined.
use Rattle.std.specs.Prelude.{◌≡◌, ℕ, ◌-◌, ◌<◌, ◌≤◌, Bool, false, slice_index, List, Option, Some, Result, Err, Ok, IfErr, IfOk}
use Rattle.mesh_page_heap.specs.Effects.{HasEffect}
use Rattle.model_heap.specs.Mesh.{begin, cancel, mesh_in, mesh_whole, page_count, step, virtual_pages}
use Rattle.model_heap.specs.MeshLaws.{steps_of_class}
use Rattle.model_heap.specs.Table.{Group, Mesh, Table, group_of, sweep}
use Rattle.model_words.specs.declared.answers.StepDone.{StepDone}
use Rattle.model_words.specs.declared.refusals.Refusal.{Refusal}
use Rattle.mesh_pagemap.specs.Entries.{is_mapped}
use Rattle.mesh_steps.specs.Heap.{HasAsManyPages, Heap, arena_of, index_of, map_of, memory_of, table_of}

-- for any roots, the memory that the heap represents is unchanged
abbrev pub MeansTheSame : Heap → Heap → Type 0
MeansTheSame old new = (roots : List (Option ℕ)) → memory_of new roots ≡ memory_of old roots

-- what a mesher's call leaves unchanged, whatever its answer: the memory that the heap represents, its next serial, and
-- the number of physical pages
pub record KeepsMeaning (old new : Heap) : Type 0 where
  pub memory : MeansTheSame old new
  pub serial : new.next_serial ≡ old.next_serial
  pub pages : HasAsManyPages old new

-- a mesher's call was answered with a value for which `IsMade` holds, or with the refusal that is defined, and then
-- nothing changed. In both cases `Keeps` holds
pub record IsAnswered {S X Y : Type 0} (Keeps : S → S → Type 0) (old new : S) (wanted : Result Y Refusal) (result : Result X Refusal)
    (IsMade : X → Type 0) : Type 0 where
  pub made : IfOk result IsMade
  pub refused : IfErr result (λ refusal. (wanted ≡ Err refusal) × (new ≡ old))
  pub kept : Keeps old new

-- a mesh began: `left` steps remain, and arena and page map are unchanged
pub record IsMeshBegun (busy : Table → ℕ → Bool) (old new : Heap) (source destination left : ℕ) : Type 0 where
  pub table : begin busy (table_of old) source destination ≡ Ok (record { count = left; table = table_of new })
  pub arena : arena_of new ≡ arena_of old
  pub map : map_of new ≡ map_of old

-- the next step of the mesh of a class was made, with its effect on arena and page map and no other
pub record IsStepMade (old new : Heap) (class : ℕ) (done : StepDone) : Type 0 where
  pub table : step (table_of old) (mesh_in (table_of old) class) ≡ Ok (record { kind = done.kind; left = done.left; table = table_of new })
  pub mesh : Mesh
  pub running : mesh_in (table_of old) class ≡ Some mesh
  pub effect : HasEffect (index_of old) mesh (arena_of old) (arena_of new) (map_of old) (map_of new)

-- the mesh of a class was cancelled: `left` unprotects remain, and arena and page map are unchanged
pub record IsMeshCancelled (old new : Heap) (class left : ℕ) : Type 0 where
  pub table : cancel (table_of old) (mesh_in (table_of old) class) ≡ Ok (record { count = left; table = table_of new })
  pub arena : arena_of new ≡ arena_of old
  pub map : map_of new ≡ map_of old

-- two groups were meshed, and `count` physical pages were freed
pub record IsMeshed (busy : Table → ℕ → Bool) (old new : Heap) (source destination count : ℕ) : Type 0 where
  pub table : mesh_whole busy (table_of old) source destination ≡ Ok (record { count = count; table = table_of new })

-- an empty group was swept: `count` physical pages were freed, and none of the group's virtual pages is mapped
pub record IsSwept (old new : Heap) (group count : ℕ) : Type 0 where
  pub table : sweep (table_of old) group ≡ Ok (record { count = count; table = table_of new })
  pub unmapped : (g : Group) (i : ℕ) → group_of (table_of old) group ≡ Some g → i < page_count g
      → is_mapped (map_of new) (slice_index (virtual_pages g) i) ≡ false

-- of the `steps` steps of the mesh of a class, `made` have been made
pub record IsOnItsWay (old now : Heap) (class steps made : ℕ) : Type 0 where
  pub few : made ≤ steps
  pub table : steps_of_class class (steps - made) (table_of now) ≡ steps_of_class class steps (table_of old)
  pub kept : KeepsMeaning old now
