-- A step of a mesh leaves what a heap means, and leaves it tied to its table.
use Rattle.std.proofs.Common.{◌≡◌, ℕ, List, [], Option, subst, sym}
use Rattle.mesh_arena.specs.Pages.{Pages}
use Rattle.model_memory.specs.Memory.{Memory}
use Rattle.model_heap.specs.Places.{meaning, records_of}
use Rattle.model_heap.specs.Sound.{IsSound, IsTied}
use Rattle.model_heap.specs.Table.{Table}
use Rattle.mesh_pagemap.specs.Entries.{Entries}
use Rattle.mesh_spans.specs.Groups.{groups_of}
use Rattle.mesh_spans.specs.Index.{Index}
use Rattle.mesh_page_heap.specs.Indexes.{layout_of}
use Rattle.mesh_page_heap.specs.StepChanges.{Keeps}
use Rattle.mesh_page_heap.specs.PageHeapInvariant.{bytes_in, targets_of}
use Rattle.mesh_page_heap.proofs.Meaning.{means_kept}
use Rattle.model_heap.proofs.SameRecords.{same_records}

-- a transition after which the table is tied to the same memory, while live bytes stay
module _ (next : ℕ) (index : Index) (t u : Table) (m m' : Entries) (arena arena' : Pages) (sound : IsSound t) (sound' : IsSound u)
    (groups : t.groups ≡ groups_of index) (keeps : Keeps (layout_of index) arena arena' m m')
    (tied : IsTied (meaning next (records_of t) (targets_of m) (bytes_in arena) []) t)
    (tied' : IsTied (meaning next (records_of t) (targets_of m) (bytes_in arena) []) u) where
  -- it means what it meant
  pub transition_means : (roots : List (Option ℕ)) → meaning next (records_of u) (targets_of m') (bytes_in arena') roots
      ≡ meaning next (records_of t) (targets_of m) (bytes_in arena) roots
  transition_means roots = means_kept _ _ _ u _ _ _ _ _ sound groups (same_records _ _ _ sound sound' tied tied') keeps

  -- and is tied to its table
  pub transition_tied : IsTied (meaning next (records_of u) (targets_of m') (bytes_in arena') []) u
  transition_tied = subst (λ (x : Memory). IsTied x u) (sym (transition_means [])) tied'
