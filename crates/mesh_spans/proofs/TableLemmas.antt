-- The groups as the table has them, as the index changes.
use Rattle.std.proofs.Common.{◌≡◌, ℕ, ◌+◌, ◌<◌, Bool, true, false, find, List, [], ◌∷◌, ◌++◌, Option, Some, None, length, map, slice_get, slice_index, slice_set, position, ◌%◌, ap, subst, refl, sym, ◌∙◌, arith}
use Rattle.std.proofs.lemmas.List.Sums.{fails_before_first}
use Rattle.std.proofs.lemmas.List.{get_or-map}
use Rattle.std.proofs.lemmas.List.Quantifiers.{position-Some}
use Rattle.std.proofs.Math.ListN.{length-append}
use Rattle.std.proofs.Math.Seq.{get_or-append_seam}
use Rattle.mesh_class.specs.Classes.{slots_of}
use Rattle.mesh_spans.proofs.SlotLemmas.{none_got}
use Rattle.model_heap.specs.Table.{Group, Slot, changed_at, free_from, fresh_group, takes_objects}
use Rattle.mesh_spans.specs.Groups.{first_of, groups_from, groups_of, is_closed, IsPicked, table_group}
use Rattle.mesh_spans.specs.Index.{GroupEntry, Index, IsIndex, IsVacant, SpanEntry, group_at, has_room, is_open, new_group, new_span, with_entry, with_slot}
use Rattle.mesh_spans.proofs.FindLemmas.{find_first, find_none}
use Rattle.mesh_spans.proofs.IndexLemmas.{filled_below, span_new, span_old}
use Rattle.mesh_spans.proofs.MergedTable.{groups_changed, groups_spans}

-- a group of the table with another entry in a slot
abbrev pub with_slot_of : ℕ → Option Slot → Group → Group
with_slot_of k entry group = record group { slots = slice_set group.slots k entry }

-- an entry changed in the index is changed in the table
pub groups_put : (spans : List SpanEntry) (b n m k : ℕ) (entry : Option Slot) (groups : List (Option GroupEntry)) → m ≡ b + n
    → groups_from spans b (with_entry groups n k entry) ≡ map (changed_at m (with_slot_of k entry)) (groups_from spans b groups)
groups_put spans b n m k entry groups at = groups_changed spans b n m (with_slot k entry) (with_slot_of k entry) groups at (λ x. refl)

-- a group added comes last
last : (spans : List SpanEntry) (b m : ℕ) (group : GroupEntry) (groups : List (Option GroupEntry)) → m ≡ b + length groups
    → groups_from spans b (groups ++ Some group ∷ []) ≡ groups_from spans b groups ++ table_group spans m group ∷ []
last spans b m group [] at = let same : b ≡ m = omega (arith, at) in rw same refl
last spans b m group (None ∷ groups) at = last spans (b + 1) m group groups (omega (arith, at))
last spans b m group (Some one ∷ groups) at =
    ap (λ (gs : List Group). table_group spans b one ∷ gs) (last spans (b + 1) m group groups (omega (arith, at)))

-- a new span and its group are added to the table as a fresh group
pub table_added : (spans : List SpanEntry) (groups : List (Option GroupEntry)) (first class : ℕ) (pages : List ℕ) → IsIndex spans groups
    → groups_of (record {
      spans = spans ++ new_span first class (length spans) ∷ [];
      groups = groups ++ Some (new_group class (length spans) pages) ∷ [];
    })
    ≡ groups_of (record { spans = spans; groups = groups }) ++ fresh_group (length spans) class first ∷ []
unfolding groups_of
table_added spans groups first class pages sound =
    let added : SpanEntry = new_span first class (length spans) in
    let group : GroupEntry = new_group class (length spans) pages in
    let fresh : table_group (spans ++ added ∷ []) (length groups) group ≡ fresh_group (length spans) class first
    = rw ((ap (λ (s : SpanEntry). s.first) (span_new spans added)), sound.paired) refl in
    last (spans ++ added ∷ []) 0 (length groups) group groups (omega arith)
    ∙ ap (λ (gs : List Group). gs ++ table_group (spans ++ added ∷ []) (length groups) group ∷ []) (groups_spans spans (spans ++ added ∷ []) 0 groups
    (λ n place x at within. ap (λ (s : SpanEntry). s.first) (span_old spans added (slice_index x.members place) (sound.members n place x at within).below)))
    ∙ ap (λ (g : Group). groups_from spans 0 groups ++ g ∷ []) fresh

-- each slot of a new span is vacant
pub new_vacant : (spans : List SpanEntry) (groups : List (Option GroupEntry)) (first class k : ℕ) (pages : List ℕ) → IsIndex spans groups
    → k < slots_of class
    → IsVacant (record {
      spans = spans ++ new_span first class (length spans) ∷ [];
      groups = groups ++ Some (new_group class (length spans) pages) ∷ [];
    }) class (length spans) k
new_vacant spans groups first class k pages sound below =
    let added : SpanEntry = new_span first class (length spans) in
    let group : GroupEntry = new_group class (length spans) pages in
    let here = span_new spans added in
    record {
      group = group;
      there = ap (λ (s : SpanEntry). group_at (groups ++ Some group ∷ []) s.group) here
          ∙ ap (λ (n : ℕ). group_at (groups ++ Some group ∷ []) n) (sym sound.paired) ∙ get_or-append_seam groups (Some group) [] None;
      same_class = refl;
      below = rw (length-append spans (added ∷ [])) (omega arith);
      of_class = ap (λ (s : SpanEntry). s.class) here;
      in_range = below;
      free = none_got (slots_of class) k below;
    }

-- a group of the table is open where that of the index is
open_same : (spans : List SpanEntry) (groups : List (Option GroupEntry)) (class j k : ℕ) (y : GroupEntry) → k ≡ j → group_at groups j ≡ Some y
    → takes_objects (is_closed (record { spans = spans; groups = groups })) class (table_group spans k y) ≡ is_open (group_at groups j) class
open_same spans groups class j k y e at = rw (e, at) refl

-- where the test passes nowhere, it fails at each place
passed_by : (test : Option GroupEntry → Bool) (groups : List (Option GroupEntry)) → position test groups ≡ None → (j : ℕ) → j < length groups
    → test (group_at groups j) ≡ false
passed_by test groups none j below = grind (arith, fails_before_first)

-- where no group of an index is open, there is none in the table
pub table_none : (index : Index) (spans : List SpanEntry) (groups : List (Option GroupEntry)) (class : ℕ) → record { spans = spans; groups = groups } ≡ index
    → position (λ o. is_open o class) groups ≡ None → find (takes_objects (is_closed index) class) (groups_of index) ≡ None
unfolding groups_of
table_none index spans groups class e none =
    subst (λ (x : Index). find (takes_objects (is_closed x) class) (groups_of x) ≡ None) e
    (find_none (takes_objects (is_closed (record { spans = spans; groups = groups })) class) spans 0 groups (λ j k y at there.
    open_same spans groups class j k y (omega (arith, at)) there ∙ passed_by (λ (o : Option GroupEntry). is_open o class) groups none j (filled_below groups j y there)))

-- the lowest open group of an index is that of the table
pub table_open : (index : Index) (spans : List SpanEntry) (groups : List (Option GroupEntry)) (class n : ℕ) (group : GroupEntry)
    → record { spans = spans; groups = groups } ≡ index → position (λ o. is_open o class) groups ≡ Some n → group_at groups n ≡ Some group
    → find (takes_objects (is_closed index) class) (groups_of index) ≡ Some (table_group spans n group)
unfolding groups_of
table_open index spans groups class n group e found at =
    let parts = position-Some (λ (o : Option GroupEntry). is_open o class) groups n None found in
    subst (λ (x : Index). find (takes_objects (is_closed x) class) (groups_of x) ≡ Some (table_group spans n group)) e
    (find_first (takes_objects (is_closed (record { spans = spans; groups = groups })) class) spans 0 n n groups group
    (λ j k y low is there. open_same spans groups class j k y (omega (arith, is)) there ∙ parts.2 j low) at (omega arith)
    (open_same spans groups class n n group refl at ∙ parts.1))

-- the lowest open group has room and is of the class
pub open_parts : (groups : List (Option GroupEntry)) (class n : ℕ) (group : GroupEntry) → position (λ o. is_open o class) groups ≡ Some n
    → group_at groups n ≡ Some group → (group.class ≡ class) × (has_room group ≡ true)
open_parts groups class n group found at = grind (arith, position-Some)

-- a group is open only where it is one
pub no_group : (groups : List (Option GroupEntry)) (class n : ℕ) → position (λ o. is_open o class) groups ≡ Some n → group_at groups n ≡ None → ⊥
no_group groups class n found none = grind (arith, position-Some)

-- the slot picked in a group is one of its first member
pub picked_in : (index : Index) (spans : List SpanEntry) (groups : List (Option GroupEntry)) (n word k : ℕ) (group : GroupEntry)
    → record { spans = spans; groups = groups } ≡ index → IsIndex spans groups → group_at groups n ≡ Some group
    → k ≡ slice_index (free_from 0 group.slots) (word % length (free_from 0 group.slots))
    → IsPicked index (table_group spans n group) word (slice_index group.members 0) k
picked_in index spans groups n word k group e sound at is =
    let some = (sound.each n group at).some_member in
    let member = sound.members n 0 group at (omega (arith, some)) in
    subst (λ (x : Index). IsPicked x (table_group spans n group) word (slice_index group.members 0) k) e (record {
      number = member.same_group;
      member = sym (get_or-map (first_of spans) group.members 0 0 0 (omega (arith, some)));
      slot = is;
    })

-- and it is vacant
pub vacant_in : (index : Index) (spans : List SpanEntry) (groups : List (Option GroupEntry)) (n class k : ℕ) (group : GroupEntry)
    → record { spans = spans; groups = groups } ≡ index → IsIndex spans groups → group_at groups n ≡ Some group → group.class ≡ class
    → k < slots_of group.class → slice_get group.slots k ≡ Some None → IsVacant index class (slice_index group.members 0) k
vacant_in index spans groups n class k group e sound at of_class within free =
    let member = sound.members n 0 group at (omega (arith, (sound.each n group at).some_member)) in
    subst (λ (x : Index). IsVacant x class (slice_index group.members 0) k) e (record {
      group = group;
      there = ap (λ (m : ℕ). group_at groups m) member.same_group ∙ at;
      same_class = of_class;
      below = member.below;
      of_class = member.same_class ∙ of_class;
      in_range = subst (λ (x : ℕ). k < slots_of x) of_class within;
      free = free;
    })
