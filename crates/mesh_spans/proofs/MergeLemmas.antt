-- What a merge keeps, and what it makes of the table.
use Rattle.std.proofs.Common.{◌≡◌, ◌≢◌, ℕ, ◌+◌, ◌<◌, ◌≤◌, false, find, IfSome, List, Option, Some, None, length, slice_index, slice_set, ap, subst, sym, ◌∙◌, arith}
use Rattle.std.proofs.Common.{not, ◌&&◌, nat_eq}
use Rattle.std.specs.Option.{option_map}
use Rattle.std.proofs.lemmas.List.{get_or-set_other, get_or-set_same}
use Rattle.model_heap.specs.Mesh.{do_overlap, merged}
use Rattle.model_heap.specs.Table.{Group, has_number}
use Rattle.mesh_spans.specs.Changes.{IsMergeable, Merges, Regroups, merged_entry, merged_groups}
use Rattle.mesh_spans.specs.Groups.{is_in_mesh, groups_from, table_group}
use Rattle.mesh_spans.specs.Index.{GroupEntry, Index, IsIndex, IsOwned, SpanEntry, group_at}
use Rattle.mesh_spans.proofs.IndexLemmas.{filled_below}
use Rattle.mesh_spans.proofs.MergedIndex.{IsIndex_merged, IsOwned_merged}
use Rattle.mesh_spans.proofs.MergedTable.{group_found, groups_merged}

-- what holds of the one group there
if_there : (groups : List (Option GroupEntry)) (n : ℕ) (group : GroupEntry) (P : GroupEntry → Type 0) → group_at groups n ≡ Some group → P group → IfSome (group_at groups n) P
if_there groups n group P at holds = subst (λ (o : Option GroupEntry). IfSome o P) (sym at) holds

-- the members of a group are spans
pub members_below : (spans : List SpanEntry) (groups : List (Option GroupEntry)) (n : ℕ) (group : GroupEntry) (members : List ℕ) → IsIndex spans groups
    → group_at groups n ≡ Some group → members ≡ group.members → (place : ℕ) → place < length members → slice_index members place < length spans
members_below spans groups n group members sound at same place below =
    rw same (sound.members n place group at (omega (arith, below, ap (λ (xs : List ℕ). length xs) same))).below

-- the groups after one was taken out and another one took its members and slots
abbrev pub absorbed : List (Option GroupEntry) → ℕ → ℕ → GroupEntry → List (Option GroupEntry)
absorbed groups s d a = slice_set (slice_set groups s None) d (option_map (merged_entry a) (group_at (slice_set groups s None) d))

pub absorbed_is : (groups : List (Option GroupEntry)) (s d : ℕ) (a b : GroupEntry) → s ≢ d → group_at groups d ≡ Some b
    → absorbed groups s d a ≡ merged_groups groups s d a b
absorbed_is groups s d a b two at = grind (arith, get_or-set_other)

-- the groups of a mergeable pair after the source was taken out, the destination took its members and slots, and its
-- spans were led there
pub record HasMerged (spans spans' : List SpanEntry) (groups after : List (Option GroupEntry)) (s d : ℕ) (a : GroupEntry) : Type 0 where
  pub pair : IsMergeable (record { spans = spans; groups = groups }) d s
  pub at : group_at groups s ≡ Some a
  pub is : after ≡ absorbed groups s d a
  pub moved : Regroups spans spans' a.members (length a.members) d

module _ (spans spans' : List SpanEntry) (groups after : List (Option GroupEntry)) (s d : ℕ) (a : GroupEntry)
    (met : HasMerged spans spans' groups after s d a) where
  pub source_is : a ≡ met.pair.a
  source_is = let both : Some a ≡ Some met.pair.a = sym met.at ∙ met.pair.source in cc both

  after_is : after ≡ merged_groups groups s d a met.pair.b
  after_is = met.is ∙ absorbed_is groups s d a met.pair.b met.pair.two met.pair.destination

  pub merge_keeps : (owners : List (Option ℕ)) → IsIndex spans groups × IsOwned spans groups owners → IsIndex spans' after × IsOwned spans' after owners
  merge_keeps owners sound =
      let class : a.class ≡ met.pair.b.class = ap (λ (g : GroupEntry). g.class) source_is ∙ met.pair.same_class in
      let few : length a.members + length met.pair.b.members ≤ 8 = (let f = met.pair.few in let e = ap (λ (g : GroupEntry). length g.members) source_is in omega (arith, f, e)) in
      rw after_is (
        IsIndex_merged spans spans' groups s d a met.pair.b sound.0 met.pair.two met.at met.pair.destination class few met.moved,
        IsOwned_merged spans spans' groups s d a met.pair.b sound.0 met.pair.two met.at met.pair.destination class few met.moved owners sound.1,
      )

  pub merge_table : (g : Group) → find (has_number s) (groups_from spans 0 groups) ≡ Some g → groups_from spans' 0 after ≡ merged (groups_from spans 0 groups) g d
  merge_table g found =
      let same : table_group spans s a ≡ g = cc (sym (group_found spans 0 s s groups a met.at (omega arith)) ∙ found) in
      rw (after_is, ← same) (groups_merged spans spans' groups s d a met.pair.b met.at met.pair.destination met.pair.two (filled_below groups s a met.at) met.moved.firsts)

  -- which groups are in a mesh
  pub merge_closed : (m : ℕ) → is_in_mesh (group_at after m) ≡ (not (nat_eq m s) && is_in_mesh (group_at groups m))
  merge_closed m = grind (arith, get_or-set_other, get_or-set_same, filled_below)

  -- what the merge tells of the index
  pub merges_is : (index : Index) → record { spans = spans; groups = groups } ≡ index → (x b : GroupEntry) → group_at index.groups s ≡ Some x → group_at index.groups d ≡ Some b
      → Merges index (record { spans = spans'; groups = after }) s d x b
  merges_is index e = subst (λ (i : Index). (x b : GroupEntry) → group_at i.groups s ≡ Some x → group_at i.groups d ≡ Some b
      → Merges i (record { spans = spans'; groups = after }) s d x b) e go
    where
      go : (x b : GroupEntry) → group_at groups s ≡ Some x → group_at groups d ≡ Some b
          → Merges (record { spans = spans; groups = groups }) (record { spans = spans'; groups = after }) s d x b
      go x b there here =
          let same : a ≡ x = (let both : Some a ≡ Some x = sym met.at ∙ there in cc both) in
          subst (λ (g : GroupEntry). Merges (record { spans = spans; groups = groups }) (record { spans = spans'; groups = after }) s d g b) same (record {
            source = met.at;
            destination = here;
            groups = met.is ∙ absorbed_is groups s d a b met.pair.two here;
            spans = met.moved;
          })

module _ (spans : List SpanEntry) (groups middle : List (Option GroupEntry)) (s d : ℕ) (a : GroupEntry)
    (pair : IsMergeable (record { spans = spans; groups = groups }) d s) (at : group_at groups s ≡ Some a) (is : middle ≡ slice_set groups s None) where
  still_there : group_at middle d ≡ Some pair.b
  still_there = ap (λ (gs : List (Option GroupEntry)). group_at gs d) is ∙ get_or-set_other groups s d None None (λ e. pair.two (sym e)) ∙ pair.destination

  is_source : pair.a ≡ a
  is_source = let both : Some pair.a ≡ Some a = sym pair.source ∙ at in cc both

  -- the group that takes the source's objects is of its class
  pub same_classes : IfSome (group_at middle d) (λ g. a.class ≡ g.class)
  same_classes = if_there middle d pair.b (λ g. a.class ≡ g.class) still_there (rw is_source at pair.same_class)

  -- has room for its members
  pub few_together : IfSome (group_at middle d) (λ g. length a.members + length g.members ≤ 8)
  few_together = if_there middle d pair.b (λ g. length a.members + length g.members ≤ 8) still_there (rw is_source at pair.few)

  -- and for its objects
  pub slots_apart : IfSome (group_at middle d) (λ g. do_overlap a.slots g.slots ≡ false)
  slots_apart = if_there middle d pair.b (λ g. do_overlap a.slots g.slots ≡ false) still_there (rw is_source at pair.apart)
