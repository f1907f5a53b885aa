-- Which two groups may be merged, according to the definition of a mesh.
use Rattle.std.specs.Prelude.{◌≡◌, ℕ, Bool, false, Some, Ok, Err}
use Rattle.model_heap.specs.Mesh.{may_begin}
use Rattle.model_heap.specs.Table.{Table}
use Rattle.model_words.specs.declared.refusals.Refusal.{Refusal}
use Rattle.mesh_spans.specs.Changes.{IsMergeable}
use Rattle.mesh_spans.specs.Groups.{groups_of, table_group}
use Rattle.mesh_spans.specs.Index.{GroupEntry, Index, group_at}

-- group `s` of the index is `a`, and group `d` is `b`
pub record AreBoth (index : Index) (s d : ℕ) (a b : GroupEntry) : Type 0 where
  pub source : group_at index.groups s ≡ Some a
  pub destination : group_at index.groups d ≡ Some b

-- the table has the groups of the index, and `busy` returns `is_busy` for the class of group `s`, if there is this
-- group
pub record IsTableOf (index : Index) (s : ℕ) (is_busy : Bool) (busy : Table → ℕ → Bool) (t : Table) : Type 0 where
  pub groups : t.groups ≡ groups_of index
  pub says : (a : GroupEntry) → group_at index.groups s ≡ Some a → busy t a.class ≡ is_busy

-- in each such table, a mesh of the groups `s` and `d` is refused with this refusal
abbrev pub IsRefusedPair : Index → ℕ → ℕ → Bool → Refusal → Type 0
IsRefusedPair index s d is_busy refusal = (busy : Table → ℕ → Bool) (t : Table) → IsTableOf index s is_busy busy t → may_begin busy t s d ≡ Err refusal

-- group `s` is `a` and may be merged into group `d`, and its class isn't busy: in each such table, a mesh of the two
-- may begin
pub record MayMerge (index : Index) (s d : ℕ) (is_busy : Bool) (a : GroupEntry) : Type 0 where
  pub pair : IsMergeable index d s
  pub source_is : pair.a ≡ a
  pub idle : is_busy ≡ false
  pub begins : (busy : Table → ℕ → Bool) (t : Table) → IsTableOf index s is_busy busy t
      → may_begin busy t s d ≡ Ok (record { source = table_group index.spans s pair.a; destination = table_group index.spans d pair.b })
