-- Why two groups may not be merged, and when they may, told by the index.
use Rattle.std.proofs.Common.{◌≡◌, ◌≢◌, ℕ, ◌+◌, ◌<◌, ◌≤◌, ◌⊎◌, inl, inr, Bool, true, false, not, map, find, is_some, length, Option, Some, None, ap, refl, sym, ◌∙◌, arith}
use Rattle.std.proofs.lemmas.Bool.{ne_eqb}
use Rattle.std.proofs.lemmas.List.{length-map}
use Rattle.mesh_bits.specs.Bits.{are_meshable}
use Rattle.mesh_class.specs.Classes.{slots_of}
use Rattle.model_heap.proofs.BeginRefusals.{busy_class, many_members, may_go, no_destination, no_source, other_class, overlapping, same_group}
use Rattle.model_heap.specs.Mesh.{do_overlap}
use Rattle.model_heap.specs.Table.{Table, group_of, has_number}
use Rattle.model_search.proofs.Searches.{overlap_by_sets}
use Rattle.model_words.specs.declared.refusals.Refusal.TheVariants.{Busy, Class, Members, NoGroup, Overlap, Same}
use Rattle.mesh_spans.proofs.FindLemmas.{find_none}
use Rattle.mesh_spans.proofs.MergedTable.{group_found}
use Rattle.mesh_spans.specs.Groups.{first_of, groups_of, table_group}
use Rattle.mesh_spans.specs.Index.{GroupEntry, Index, IsIndex, group_at}
use Rattle.mesh_spans.specs.Pairs.{AreBoth, IsRefusedPair, MayMerge}

-- a group of the index is one of the table
pub entry_in_table : (index : Index) (n : ℕ) (entry : GroupEntry) → group_at index.groups n ≡ Some entry
    → find (has_number n) (groups_of index) ≡ Some (table_group index.spans n entry)
unfolding groups_of
entry_in_table index n entry at = group_found index.spans 0 n n index.groups entry at (omega arith)

-- a number that is no group of the index is none of the table
pub none_in_table : (index : Index) (n : ℕ) → group_at index.groups n ≡ None → find (has_number n) (groups_of index) ≡ None
unfolding groups_of
none_in_table index n at = find_none (has_number n) index.spans 0 index.groups (λ j k y e there. ne_eqb k n (λ same.
    let two : ◌≡◌ {A = Option GroupEntry} None (Some y) = sym at ∙ ap (group_at index.groups) (omega (arith, same, e)) ∙ there in absurd (cc two)))

-- groups of one class have as many slots
pub same_slots : (index : Index) (s d : ℕ) (a b : GroupEntry) → IsIndex index.spans index.groups → AreBoth index s d a b
    → a.class ≡ b.class → length (map is_some a.slots) ≡ length (map is_some b.slots)
same_slots index s d a b sound both same =
    length-map a.slots is_some ∙ (sound.each s a both.source).slots ∙ ap slots_of same ∙ sym ((sound.each d b both.destination).slots) ∙ sym (length-map b.slots is_some)

-- sets of occupied slots that can't be meshed tell an overlap
pub overlap_told : (a b : GroupEntry) (apart : Bool) → apart ≡ are_meshable (map is_some a.slots) (map is_some b.slots) → do_overlap a.slots b.slots ≡ not apart
overlap_told a b apart is = overlap_by_sets a.slots b.slots ∙ ap not (sym is)

module _ (index : Index) (s d : ℕ) (is_busy : Bool) where
  none_here : (t : Table) (n : ℕ) → t.groups ≡ groups_of index → group_at index.groups n ≡ None → group_of t n ≡ None
  none_here t n same none = ap (find (has_number n)) same ∙ none_in_table index n none

  entry_here : (t : Table) (n : ℕ) (x : GroupEntry) → t.groups ≡ groups_of index → group_at index.groups n ≡ Some x → group_of t n ≡ Some (table_group index.spans n x)
  entry_here t n x same is = ap (find (has_number n)) same ∙ entry_in_table index n x is

  no_source_here : group_at index.groups s ≡ None → IsRefusedPair index s d is_busy NoGroup
  no_source_here none busy t of = no_source busy t s d (none_here t s of.groups none)

  pub refuses_none : (group_at index.groups s ≡ None ⊎ group_at index.groups d ≡ None) → IsRefusedPair index s d is_busy NoGroup
  refuses_none (inl none) = no_source_here none
  refuses_none (inr none) = go (group_at index.groups s) refl
    where
      go : (o : Option GroupEntry) → group_at index.groups s ≡ o → IsRefusedPair index s d is_busy NoGroup
      go None is = no_source_here is
      go (Some a) is = λ busy t of. no_destination busy t s d _ (entry_here t s a of.groups is) (none_here t d of.groups none)

  module _ (a b : GroupEntry) (both : AreBoth index s d a b) where
    from : (t : Table) → t.groups ≡ groups_of index → group_of t s ≡ Some (table_group index.spans s a)
    from t same = entry_here t s a same both.source

    into : (t : Table) → t.groups ≡ groups_of index → group_of t d ≡ Some (table_group index.spans d b)
    into t same = entry_here t d b same both.destination

    members : length (map (first_of index.spans) a.members) + length (map (first_of index.spans) b.members) ≡ length a.members + length b.members
    members = let x = length-map a.members (first_of index.spans) in let y = length-map b.members (first_of index.spans) in omega (arith, x, y)

    pub refuses_same : s ≡ d → IsRefusedPair index s d is_busy Same
    refuses_same one busy t of = same_group busy t s d _ _ (from t of.groups) (into t of.groups) one

    pub refuses_class : s ≢ d → a.class ≢ b.class → IsRefusedPair index s d is_busy Class
    refuses_class two differ busy t of = other_class busy t s d _ _ (from t of.groups) (into t of.groups) two differ

    module _ (two : s ≢ d) (one : a.class ≡ b.class) where
      pub refuses_busy : is_busy ≡ true → IsRefusedPair index s d is_busy Busy
      refuses_busy taken busy t of = busy_class busy t s d _ _ (from t of.groups) (into t of.groups) two one (of.says a both.source ∙ taken)

      pub refuses_overlap : is_busy ≡ false → do_overlap a.slots b.slots ≡ true → IsRefusedPair index s d is_busy Overlap
      refuses_overlap idle taken busy t of = overlapping busy t s d _ _ (from t of.groups) (into t of.groups) two one (of.says a both.source ∙ idle) taken

      pub refuses_members : is_busy ≡ false → do_overlap a.slots b.slots ≡ false → 8 < length a.members + length b.members
          → IsRefusedPair index s d is_busy Members
      refuses_members idle free many busy t of =
          many_members busy t s d _ _ (from t of.groups) (into t of.groups) two one (of.says a both.source ∙ idle) free (let m = members in omega (arith, m, many))

      pub allows : is_busy ≡ false → do_overlap a.slots b.slots ≡ false → length a.members + length b.members ≤ 8 → MayMerge index s d is_busy a
      allows idle free few = record {
        pair = record { a = a; b = b; source = both.source; destination = both.destination; two = two; same_class = one; few = few; apart = free };
        source_is = refl;
        idle = idle;
        begins = λ busy t of.
            may_go busy t s d _ _ (from t of.groups) (into t of.groups) two one (of.says a both.source ∙ idle) free (let m = members in omega (arith, m, few));
      }
