-- An index whose two groups were merged is one.
use Rattle.std.proofs.Common.{◌≡◌, ◌≢◌, ℕ, zero, suc, ◌+◌, ◌<◌, ◌≤◌, Bool, true, map, List, [], ◌∷◌, ◌++◌, Option, Some, None, length, slice_index, slice_index_or, slice_set, ap, subst, refl, sym, ◌∙◌, arith, ◌⊎◌, inl, inr}
use Rattle.std.proofs.Math.ListN.{length-append, length-set}
use Rattle.std.proofs.lemmas.List.{get_or-set_other, get_or-set_same}
use Rattle.std.proofs.Common.{is_some, take, drop}
use Rattle.std.proofs.Math.Seq.{take-append_seam}
use Rattle.mesh_bits.specs.Bits.{union_of}
use Rattle.mesh_class.specs.Classes.{pages_of}
use Rattle.model_heap.proofs.UnitedSlots.{united_long, united_slot}
use Rattle.model_heap.specs.Mesh.{united}
use Rattle.model_heap.specs.Table.{Slot}
use Rattle.mesh_spans.specs.Index.{GroupEntry, IsGroup, IsIndex, IsMember, IsOwned, SpanEntry, group_at, span_at}
use Rattle.mesh_spans.specs.Changes.{merged_entry, merged_groups, Regroups}
use Rattle.mesh_spans.proofs.IndexLemmas.{filled_below}

-- what holds of the elements of two lists holds of those of both joined
each_joined : (xs ys : List ℕ) (P : ℕ → Type 0) → ((i : ℕ) → i < length xs → P (slice_index xs i)) → ((j : ℕ) → j < length ys → P (slice_index ys j))
    → (place : ℕ) → place < length (xs ++ ys) → P (slice_index (xs ++ ys) place)
each_joined [] ys P front back place below = back place below
each_joined (x ∷ xs) ys P front back zero below = front 0 (omega arith)
each_joined (x ∷ xs) ys P front back (suc place) below =
    each_joined xs ys P (λ i h. front (suc i) (omega (arith, h))) back place (omega (arith, below))

-- two groups merged are one
pub IsGroup_merged : (a b : GroupEntry) → IsGroup a → IsGroup b → a.class ≡ b.class → length a.members + length b.members ≤ 8 → IsGroup (merged_entry a b)
IsGroup_merged a b x y same_class few = grind (arith, length-append, united_long, united_slot)

-- the occupied slots of both groups
pub occupied_united : (xs ys : List (Option Slot)) → map is_some (united xs ys) ≡ union_of (map is_some xs) (map is_some ys)
occupied_united [] ys = refl
occupied_united (x ∷ xs) [] = refl
occupied_united (None ∷ xs) (y ∷ ys) = ap (λ (set : List Bool). is_some y ∷ set) (occupied_united xs ys)
occupied_united (Some x ∷ xs) (y ∷ ys) = ap (λ (set : List Bool). true ∷ set) (occupied_united xs ys)

-- a list written over as long as it was
pub refilled : (len : ℕ) (old new : List (Option Slot)) → len ≡ length old → length new ≡ length old → take len (new ++ drop (length new) old) ≡ new
refilled len old new is long = rw (is, ← long) (take-append_seam new (drop (length new) old))

module _ (spans spans' : List SpanEntry) (groups : List (Option GroupEntry)) (s d : ℕ) (a b : GroupEntry) (sound : IsIndex spans groups) (two : s ≢ d)
    (source : group_at groups s ≡ Some a) (destination : group_at groups d ≡ Some b) (same_class : a.class ≡ b.class)
    (few : length a.members + length b.members ≤ 8) (moved : Regroups spans spans' a.members (length a.members) d) where
  pub gone : group_at (merged_groups groups s d a b) s ≡ None
  gone = get_or-set_other (slice_set groups s None) d s (Some (merged_entry a b)) None two
      ∙ get_or-set_same groups s None None (filled_below groups s a source)

  pub merged_at : group_at (merged_groups groups s d a b) d ≡ Some (merged_entry a b)
  merged_at = get_or-set_same (slice_set groups s None) d (Some (merged_entry a b)) None
      (let below = filled_below groups d b destination in omega (arith, below, length-set groups s None))

  pub others_at : (n : ℕ) → n ≢ s → n ≢ d → group_at (merged_groups groups s d a b) n ≡ group_at groups n
  others_at n not_s not_d = get_or-set_other (slice_set groups s None) d n (Some (merged_entry a b)) None not_d
      ∙ get_or-set_other groups s n None None not_s

  long : length (merged_groups groups s d a b) ≡ length groups
  long = length-set (slice_set groups s None) d (Some (merged_entry a b)) ∙ length-set groups s None

  merged_group : IsGroup (merged_entry a b)
  merged_group = IsGroup_merged a b (sound.each s a source) (sound.each d b destination) same_class few

  -- a member of a group is one of the group that has it now
  member_is : (g : GroupEntry) (n m i : ℕ) (entry : GroupEntry) → IsMember spans g n i → entry.class ≡ g.class → (span_at spans' i).group ≡ m
      → IsMember spans' entry m i
  member_is g n m i entry was class group = grind arith

  -- a span that was the destination's is
  stays : (i : ℕ) → (span_at spans i).group ≡ d → (span_at spans' i).group ≡ d
  stays i was = elim (moved.either i) [ inl same ↦ same ∙ was | inr new ↦ new.belongs ]

  merged_members : (place : ℕ) → place < length (b.members ++ a.members) → IsMember spans' (merged_entry a b) d (slice_index (b.members ++ a.members) place)
  merged_members = each_joined _ _ (λ i. IsMember spans' (merged_entry a b) d i) (λ place below. let was = sound.members d place b destination below in
      member_is _ _ _ _ (merged_entry a b) was refl (stays _ was.same_group))
      (λ j below. member_is _ _ _ _ (merged_entry a b) (sound.members s j a source below) (sym same_class) (moved.here j below))

  -- the group that a number has now
  now_is : (n : ℕ) (group : GroupEntry) → group_at (merged_groups groups s d a b) n ≡ Some group
      → ((n ≡ d) × (merged_entry a b ≡ group)) ⊎ ((n ≢ s) × (n ≢ d) × (group_at groups n ≡ Some group))
  now_is n group at = grind (arith, gone, merged_at, others_at)

  -- a member of a group that is neither of the two stays one
  other_stays : (n i : ℕ) → n ≢ s → (span_at spans i).group ≡ n → (span_at spans' i).group ≡ n
  other_stays n i not_s was = grind arith

  -- the span's group is one of the groups still
  numbered_is : (i : ℕ) → i < length spans → (span_at spans' i).group < length (merged_groups groups s d a b)
  numbered_is i below = grind (arith, long, filled_below)

  -- and it is of the span's class
  class_is : (i : ℕ) (group : GroupEntry) → i < length spans → group_at (merged_groups groups s d a b) (span_at spans' i).group ≡ Some group
      → group.class ≡ (span_at spans' i).class
  class_is i group below at = grind (arith, now_is)

  -- an index whose two groups were merged is one
  pub IsIndex_merged : IsIndex spans' (merged_groups groups s d a b)
  IsIndex_merged = record {
    span = λ i below. let was = sound.span i (omega (arith, below, moved.long)) in record {
      class = rw (moved.classes i) was.class;
      first = rw (moved.firsts i) was.first;
      last = rw (moved.classes i, moved.firsts i) was.last;
    };
    few = λ i below. subst (λ (v : ℕ). i < v) (sym (moved.firsts i)) (sound.few i (omega (arith, below, moved.long)));
    paired = long ∙ sound.paired ∙ sym moved.long;
    each = λ n group at. elim (now_is n group at) [
      | inl merged_ ↦ subst (λ (g : GroupEntry). IsGroup g) merged_.1 merged_group
      | inr other ↦ sound.each n group other.2
    ];
    members = λ n place group at below. elim (now_is n group at) [
      | inl merged_ ↦ rw (merged_.0, ← merged_.1) (merged_members place (rw (← merged_.1) at below))
      | inr other ↦ let was = sound.members n place group other.2 below in
          member_is group n n (slice_index group.members place) group was refl (other_stays n (slice_index group.members place) other.0 was.same_group)
    ];
    numbered = λ i below. numbered_is i (omega (arith, below, moved.long));
    classes = λ i group below at. class_is i group (omega (arith, below, moved.long)) at;
  }

  -- the table of virtual pages stays right
  pub IsOwned_merged : (owners : List (Option ℕ)) → IsOwned spans groups owners → IsOwned spans' (merged_groups groups s d a b) owners
  IsOwned_merged owners own = record {
    owned = λ n place j group at below page. elim (now_is n group at) [
      | inl merged_ ↦ rw (← merged_.1) (owned_merged place j (rw (← merged_.1) at below) (rw (← merged_.1) at page))
      | inr other ↦ as_before (slice_index group.members place) j (own.owned n place j group other.2 below page)
    ];
  }
    where
      as_before : (i j : ℕ) → slice_index_or owners ((span_at spans i).first + j) None ≡ Some i → slice_index_or owners ((span_at spans' i).first + j) None ≡ Some i
      as_before i j was = subst (λ (v : ℕ). slice_index_or owners (v + j) None ≡ Some i) (sym (moved.firsts i)) was

      owned_merged : (place j : ℕ) → place < length (b.members ++ a.members) → j < pages_of b.class
          → slice_index_or owners ((span_at spans' (slice_index (b.members ++ a.members) place)).first + j) None ≡ Some (slice_index (b.members ++ a.members) place)
      owned_merged place j below page = each_joined b.members a.members (λ i. slice_index_or owners ((span_at spans' i).first + j) None ≡ Some i)
          (λ k inside. as_before (slice_index b.members k) j (own.owned d k j b destination inside page))
          (λ k inside. as_before (slice_index a.members k) j (own.owned s k j a source inside (rw same_class page))) place below
