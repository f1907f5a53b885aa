-- The map that a table with a place for each virtual page represents.
use Rattle.std.specs.Prelude.{◌≡◌, ℕ, ◌+◌, ◌≤◌, List, [], ◌∷◌, Option, Some, None, length, slice_index_or}
use Rattle.std.specs.FinMap as map
use Rattle.mesh_pagemap.specs.Entries.{Entries}
use Rattle.mesh_pagemap.specs.declared.prot.Prot.{Prot}

-- the entries of a table whose first place is that of the virtual page `v`
abbrev pub entries_from : ℕ → List (Option (ℕ × Prot)) → List (ℕ × (ℕ × Prot))
entries_from v [] = []
entries_from v (None ∷ places) = entries_from (v + 1) places
entries_from v (Some entry ∷ places) = (v, entry) ∷ entries_from (v + 1) places

-- the map that a table represents
unfoldable pub mapping : List (Option (ℕ × Prot)) → Entries
mapping places = map.from_entries (entries_from 0 places)

-- the table has at most 65,536 places, and the place of virtual page 0 is empty or missing
pub record IsTable (places : List (Option (ℕ × Prot))) : Type 0 where
  pub short : length places ≤ 65536
  pub first_empty : slice_index_or places 0 None ≡ None
