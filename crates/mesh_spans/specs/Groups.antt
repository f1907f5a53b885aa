-- The groups of the index in the form that the table uses, and the place of a new object.
use Rattle.std.specs.Prelude.{◌≡◌, ℕ, ◌+◌, Bool, false, List, [], ◌∷◌, Option, Some, None, map}
use Rattle.model_heap.specs.Table.{Group, first_member, picked_slot}
use Rattle.mesh_spans.specs.Index.{Index, SpanEntry, GroupEntry, span_at, group_at}

-- the first virtual page of a span
abbrev pub first_of : List SpanEntry → ℕ → ℕ
first_of spans i = (span_at spans i).first

-- the group in the form that the table uses: its members are their first virtual pages
abbrev pub table_group : List SpanEntry → ℕ → GroupEntry → Group
table_group spans n group = record { number = n; class = group.class; members = map (first_of spans) group.members; slots = group.slots }

-- the groups in the form that the table uses; the first of the list has the number `n`
abbrev pub groups_from : List SpanEntry → ℕ → List (Option GroupEntry) → List Group
groups_from spans n [] = []
groups_from spans n (None ∷ groups) = groups_from spans (n + 1) groups
groups_from spans n (Some group ∷ groups) = table_group spans n group ∷ groups_from spans (n + 1) groups

-- the groups of the index in the form that the table uses
unfoldable pub groups_of : Index → List Group
groups_of index = groups_from index.spans 0 index.groups

-- whether there is a group and it is in a mesh
abbrev pub is_in_mesh : Option GroupEntry → Bool
is_in_mesh None = false
is_in_mesh (Some group) = group.in_mesh

-- whether the group of this number is in a mesh, and so closed to new objects
abbrev pub is_closed : Index → ℕ → Bool
is_closed index n = is_in_mesh (group_at index.groups n)

-- the span is the first member of the group, and the word picks slot `k` of the group
pub record IsPicked (index : Index) (group : Group) (word span k : ℕ) : Type 0 where
  pub number : (span_at index.spans span).group ≡ group.number
  pub member : (span_at index.spans span).first ≡ first_member group
  pub slot : k ≡ picked_slot group word
