-- How groups are closed, merged and removed.
use Rattle.std.specs.Prelude.{◌≡◌, ◌≢◌, ℕ, ◌+◌, ◌<◌, ◌≤◌, ◌⊎◌, Bool, false, List, ◌++◌, Option, Some, None, length, slice_index, slice_set}
use Rattle.std.specs.Option.{option_map}
use Rattle.model_heap.specs.Mesh.{do_overlap, united}
use Rattle.mesh_spans.specs.Index.{GroupEntry, Index, SpanEntry, group_at, span_at}

-- the span with another group number
abbrev pub in_group : ℕ → SpanEntry → SpanEntry
in_group group span = record span { group = group }

-- the group, marked as in a mesh or in none
abbrev pub with_mesh : Bool → GroupEntry → GroupEntry
with_mesh meshing group = record group { in_mesh = meshing }

-- the groups, with group `n` marked as in a mesh or in none
abbrev pub with_flag : List (Option GroupEntry) → ℕ → Bool → List (Option GroupEntry)
with_flag groups n meshing = slice_set groups n (option_map (with_mesh meshing) (group_at groups n))

-- the group `b` after `a` is merged into it: with the members of `a` after its own, and the objects of both
abbrev pub merged_entry : GroupEntry → GroupEntry → GroupEntry
merged_entry a b = record b { members = b.members ++ a.members; slots = united b.slots a.slots }

-- the groups after group `s`, which is `a`, is merged into group `d`, which is `b`
abbrev pub merged_groups : List (Option GroupEntry) → ℕ → ℕ → GroupEntry → GroupEntry → List (Option GroupEntry)
merged_groups groups s d a b = slice_set (slice_set groups s None) d (Some (merged_entry a b))

-- the span is one of the first `count` members, and belongs to the group
pub record IsMoved (new : List SpanEntry) (members : List ℕ) (count group i : ℕ) : Type 0 where
  pub place : ℕ
  pub below : place < count
  pub is : slice_index members place ≡ i
  pub belongs : (span_at new i).group ≡ group

-- the first `count` of the members belong to the group, and every other span belongs to its old group; nothing else
-- changes
pub record Regroups (old new : List SpanEntry) (members : List ℕ) (count group : ℕ) : Type 0 where
  pub long : length new ≡ length old
  pub firsts : (i : ℕ) → (span_at new i).first ≡ (span_at old i).first
  pub classes : (i : ℕ) → (span_at new i).class ≡ (span_at old i).class
  pub here : (place : ℕ) → place < count → (span_at new (slice_index members place)).group ≡ group
  pub either : (i : ℕ) → ((span_at new i).group ≡ (span_at old i).group) ⊎ IsMoved new members count group i

-- the group `s` may be merged into `d`: they are two groups of one class, with at most 8 members together, and no slot
-- number is occupied in both
pub record IsMergeable (index : Index) (d s : ℕ) : Type 0 where
  pub a : GroupEntry
  pub b : GroupEntry
  pub source : group_at index.groups s ≡ Some a
  pub destination : group_at index.groups d ≡ Some b
  pub two : s ≢ d
  pub same_class : a.class ≡ b.class
  pub few : length a.members + length b.members ≤ 8
  pub apart : do_overlap a.slots b.slots ≡ false

-- the index after group `s`, which is `a`, is merged into group `d`, which is `b`
pub record Merges (old new : Index) (s d : ℕ) (a b : GroupEntry) : Type 0 where
  pub source : group_at old.groups s ≡ Some a
  pub destination : group_at old.groups d ≡ Some b
  pub groups : new.groups ≡ merged_groups old.groups s d a b
  pub spans : Regroups old.spans new.spans a.members (length a.members) d
