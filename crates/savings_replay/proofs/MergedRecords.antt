-- The records of slots stay where two groups are merged, and where an empty group is taken out.
use Rattle.std.proofs.Common.{◌≡◌, ◌≢◌, ℕ, zero, suc, ◌+◌, ◌<◌, ◌≤◌, false, List, [], ◌∷◌, Option, Some, None, count_by, find, is_some, length, map, slice_get, slice_index, slice_index_or, slice_set, ap, refl, sym, ◌∙◌, arith, inl, inr}
use Rattle.std.proofs.lemmas.Bool.Decides.{eqb_tells, leb_tells}
use Rattle.std.proofs.lemmas.List.{get_or-set_other, get_or-set_same, get_or_past}
use Rattle.std.proofs.lemmas.Option.{slice_get-get_or}
use Rattle.std.proofs.Math.ListN.{length-set}
use Rattle.model_heap.proofs.GroupPages.{found_sound}
use Rattle.model_heap.proofs.TiedTables.{filled_counted}
use Rattle.model_heap.proofs.UnitedSlots.{united_slot}
use Rattle.model_heap.specs.Mesh.{do_overlap, either_slot}
use Rattle.model_heap.specs.Sound.{IsSound, times_in}
use Rattle.model_heap.specs.Table.{Slot, Table, has_number}
use Rattle.mesh_spans.proofs.IndexLemmas.{filled_below}
use Rattle.mesh_spans.proofs.PairLemmas.{entry_in_table}
use Rattle.mesh_spans.specs.Changes.{Merges, merged_entry}
use Rattle.mesh_spans.specs.Groups.{first_of, groups_of, table_group}
use Rattle.mesh_spans.specs.Index.{GroupEntry, Index, IsIndex, SpanEntry, group_at, named_in, slot_in, span_at}
use Rattle.savings_replay.proofs.SlotRecords.{firsts_apart, not_named, records_same, slot_of}
use Rattle.savings_replay.specs.Placement.{FirstsAscend}
use Rattle.savings_replay.specs.Records.{KeepsRecords}

-- a page is the first one of the member at a place
record IsFirstOf (spans : List SpanEntry) (members : List ℕ) (page : ℕ) : Type 0 where
  place : ℕ
  below : place < length members
  is : first_of spans (slice_index members place) ≡ page

first_place : (spans : List SpanEntry) (members : List ℕ) (page : ℕ) → 1 ≤ times_in page (map (first_of spans) members) → IsFirstOf spans members page
first_place spans [] page some = absurd (omega (arith, some))
first_place spans (m ∷ members) page some = elim (eqb_tells (first_of spans m) page) [
  | inl same ↦ record { place = 0; below = omega arith; is = same.1 }
  | inr other ↦ let later : 1 ≤ 0 + times_in page (map (first_of spans) members) = rw other.0 at some in
      let rest = first_place spans members page (omega (arith, later)) in
      let low = rest.below in record { place = suc rest.place; below = omega (arith, low); is = rest.is }
]

-- no slot is filled in both of two lists that do not overlap
apart_at : (xs ys : List (Option Slot)) (k : ℕ) (x y : Slot) → do_overlap xs ys ≡ false → slice_index_or xs k None ≡ Some x → slice_index_or ys k None ≡ Some y → ⊥
apart_at [] ys k x y apart at at' = (let two : ◌≡◌ {A = Option Slot} None (Some x) = at in cc two)
apart_at (z ∷ xs) [] k x y apart at at' = (let two : ◌≡◌ {A = Option Slot} None (Some y) = at' in cc two)
apart_at (z ∷ xs) (w ∷ ys) zero x y apart at at' = grind arith
apart_at (z ∷ xs) (w ∷ ys) (suc k) x y apart at at' = grind (arith, apart_at xs ys k x y)

module _ (index : Index) (t : Table) (sound : IsIndex index.spans index.groups) (ascend : FirstsAscend index.spans) (table : IsSound t)
    (groups_are : t.groups ≡ groups_of index) where
  -- an object in a slot of a group is one of a member
  of_member : (n k : ℕ) (g : GroupEntry) (x : Slot) → group_at index.groups n ≡ Some g → slice_index_or g.slots k None ≡ Some x
      → IsFirstOf index.spans g.members x.member
  of_member n k g x at filled = first_place index.spans g.members x.member
      ((found_sound t (has_number n) (table_group index.spans n g) table found).objects k x got).in_member
    where
      found : find (has_number n) t.groups ≡ Some (table_group index.spans n g)
      found = ap (find (has_number n)) groups_are ∙ entry_in_table index n g at

      got : slice_get g.slots k ≡ Some (Some x)
      got = elim (leb_tells (length g.slots) k) [
        | inr below ↦ slice_get-get_or g.slots k None below.1 ∙ ap Some filled
        | inl past ↦ absurd (let two : ◌≡◌ {A = Option Slot} None (Some x) = sym (get_or_past g.slots k None past.1) ∙ filled in cc two)
      ]

  -- an object in a slot of a group is not one of a span that is no member
  foreign : (n k i : ℕ) (g : GroupEntry) → group_at index.groups n ≡ Some g → i < length index.spans
      → ((place : ℕ) → place < length g.members → i ≢ slice_index g.members place) → named_in (span_at index.spans i).first (slice_index_or g.slots k None) ≡ None
  foreign n k i g at below none = go (slice_index_or g.slots k None) refl
    where
      go : (o : Option Slot) → slice_index_or g.slots k None ≡ o → named_in (span_at index.spans i).first o ≡ None
      go None is = refl
      go (Some x) is =
          let at_place = of_member n k g x at is in
          let member = sound.members n at_place.place g at at_place.below in
          let differ = firsts_apart index.spans i (slice_index g.members at_place.place) ascend below member.below (none at_place.place at_place.below) in
          not_named x.member (span_at index.spans i).first (Some x) refl (λ same. differ (same ∙ sym at_place.is))

  -- nor of a span of another group
  outside : (n k i : ℕ) (g : GroupEntry) → group_at index.groups n ≡ Some g → i < length index.spans → (span_at index.spans i).group ≢ n
      → named_in (span_at index.spans i).first (slice_index_or g.slots k None) ≡ None
  outside n k i g at below other = foreign n k i g at below
      (λ place within same. other (ap (λ (j : ℕ). (span_at index.spans j).group) same ∙ (sound.members n place g at within).same_group))

  module _ (new : Index) (s d : ℕ) (a b : GroupEntry) (two : s ≢ d) (apart : do_overlap a.slots b.slots ≡ false) (merges : Merges index new s d a b) where
    at_d : group_at new.groups d ≡ Some (merged_entry a b)
    at_d = ap (λ (gs : List (Option GroupEntry)). group_at gs d) merges.groups
        ∙ get_or-set_same (slice_set index.groups s None) d (Some (merged_entry a b)) None
        (let long = length-set index.groups s None in let low = filled_below index.groups d b merges.destination in omega (arith, long, low))

    at_s : group_at new.groups s ≡ None
    at_s = ap (λ (gs : List (Option GroupEntry)). group_at gs s) merges.groups
        ∙ get_or-set_other (slice_set index.groups s None) d s (Some (merged_entry a b)) None two
        ∙ get_or-set_same index.groups s None None (filled_below index.groups s a merges.source)

    at_other : (n : ℕ) → n ≢ s → n ≢ d → group_at new.groups n ≡ group_at index.groups n
    at_other n not_s not_d = ap (λ (gs : List (Option GroupEntry)). group_at gs n) merges.groups
        ∙ get_or-set_other (slice_set index.groups s None) d n (Some (merged_entry a b)) None not_d
        ∙ get_or-set_other index.groups s n None None not_s

    -- the slot of the merged group
    slot_d : (k : ℕ) → slot_in (group_at new.groups d) k ≡ either_slot (slice_index_or b.slots k None) (slice_index_or a.slots k None)
    slot_d k = ap (λ (o : Option GroupEntry). slot_in o k) at_d ∙ united_slot b.slots a.slots k

    -- a span of the source has in the merged group what it had in the source
    from_source : (i k : ℕ) → i < length index.spans → (span_at index.spans i).group ≡ s
        → named_in (span_at index.spans i).first (either_slot (slice_index_or b.slots k None) (slice_index_or a.slots k None))
        ≡ named_in (span_at index.spans i).first (slice_index_or a.slots k None)
    from_source i k below own = go (slice_index_or b.slots k None) (slice_index_or a.slots k None) refl refl
      where
        go : (y x : Option Slot) → slice_index_or b.slots k None ≡ y → slice_index_or a.slots k None ≡ x
            → named_in (span_at index.spans i).first (either_slot y x) ≡ named_in (span_at index.spans i).first x
        go None x is is' = refl
        go (Some y) (Some x) is is' = absurd (apart_at a.slots b.slots k x y apart is' is)
        go (Some y) None is is' = ap (named_in (span_at index.spans i).first) (sym is)
            ∙ outside d k i b merges.destination below (λ same. two (sym own ∙ same))

    -- a span of the destination has what it had
    from_destination : (i k : ℕ) → i < length index.spans → (span_at index.spans i).group ≡ d
        → named_in (span_at index.spans i).first (either_slot (slice_index_or b.slots k None) (slice_index_or a.slots k None))
        ≡ named_in (span_at index.spans i).first (slice_index_or b.slots k None)
    from_destination i k below own = go (slice_index_or b.slots k None) refl
      where
        go : (y : Option Slot) → slice_index_or b.slots k None ≡ y
            → named_in (span_at index.spans i).first (either_slot y (slice_index_or a.slots k None)) ≡ named_in (span_at index.spans i).first y
        go None is = outside s k i a merges.source below (λ same. two (sym same ∙ own))
        go (Some y) is = refl

    -- each span has the record that it had
    named : (i k : ℕ) → i < length index.spans → named_in (span_at index.spans i).first (slot_of new i k) ≡ named_in (span_at index.spans i).first (slot_of index i k)
    named i k below = elim (merges.spans.either i) [
      | inr moved ↦
          let own : (span_at index.spans i).group ≡ s
          = ap (λ (j : ℕ). (span_at index.spans j).group) (sym moved.is) ∙ (sound.members s moved.place a merges.source moved.below).same_group in
          ap (λ (n : ℕ). named_in (span_at index.spans i).first (slot_in (group_at new.groups n) k)) moved.belongs
          ∙ ap (named_in (span_at index.spans i).first) (slot_d k) ∙ from_source i k below own
          ∙ sym (ap (λ (n : ℕ). named_in (span_at index.spans i).first (slot_in (group_at index.groups n) k)) own
          ∙ ap (λ (o : Option GroupEntry). named_in (span_at index.spans i).first (slot_in o k)) merges.source)
      | inl same ↦
          ap (λ (n : ℕ). named_in (span_at index.spans i).first (slot_in (group_at new.groups n) k)) same ∙ elim (eqb_tells (span_at index.spans i).group s) [
            | inl own ↦
                ap (λ (n : ℕ). named_in (span_at index.spans i).first (slot_in (group_at new.groups n) k)) own.1
                ∙ ap (λ (o : Option GroupEntry). named_in (span_at index.spans i).first (slot_in o k)) at_s
                ∙ sym (ap (λ (n : ℕ). named_in (span_at index.spans i).first (slot_in (group_at index.groups n) k)) own.1
                ∙ ap (λ (o : Option GroupEntry). named_in (span_at index.spans i).first (slot_in o k)) merges.source
                ∙ foreign s k i a merges.source below (λ place within is. two (sym own.1 ∙ sym same
                ∙ ap (λ (j : ℕ). (span_at new.spans j).group) is ∙ merges.spans.here place within)))
            | inr not_s ↦ elim (eqb_tells (span_at index.spans i).group d) [
              | inl own ↦
                  ap (λ (n : ℕ). named_in (span_at index.spans i).first (slot_in (group_at new.groups n) k)) own.1
                  ∙ ap (named_in (span_at index.spans i).first) (slot_d k) ∙ from_destination i k below own.1
                  ∙ sym (ap (λ (n : ℕ). named_in (span_at index.spans i).first (slot_in (group_at index.groups n) k)) own.1
                  ∙ ap (λ (o : Option GroupEntry). named_in (span_at index.spans i).first (slot_in o k)) merges.destination)
              | inr not_d ↦ ap (λ (o : Option GroupEntry). named_in (span_at index.spans i).first (slot_in o k)) (at_other (span_at index.spans i).group not_s.1 not_d.1)
            ]
          ]
    ]

    pub merged_records : KeepsRecords index new
    merged_records i k = records_same index new i k merges.spans.long (merges.spans.firsts i) (λ below. named i k below)

-- in a group without an object each slot is empty
none_counted : (slots : List (Option Slot)) (k : ℕ) → count_by is_some slots ≡ 0 → slice_index_or slots k None ≡ None
none_counted slots k none = go (slice_index_or slots k None) refl
  where
    go : (o : Option Slot) → slice_index_or slots k None ≡ o → o ≡ None
    go None is = refl
    go (Some x) is = absurd (grind (arith, filled_counted, slice_get-get_or, get_or_past))

-- each slot has the record that it had where an empty group was taken out
pub retired_records : (old new : Index) (n : ℕ) (a : GroupEntry) → group_at old.groups n ≡ Some a → count_by is_some a.slots ≡ 0 → new.spans ≡ old.spans
    → new.groups ≡ slice_set old.groups n None → KeepsRecords old new
retired_records old new n a there none spans groups i k =
    records_same old new i k (ap (λ (xs : List SpanEntry). length xs) spans) (ap (λ (xs : List SpanEntry). (span_at xs i).first) spans)
    (λ below. ap (named_in (span_at old.spans i).first) same)
  where
    same : slot_of new i k ≡ slot_of old i k
    same = ap (λ (xs : List SpanEntry). slot_in (group_at new.groups (span_at xs i).group) k) spans
        ∙ ap (λ (gs : List (Option GroupEntry)). slot_in (group_at gs (span_at old.spans i).group) k) groups
        ∙ elim (eqb_tells (span_at old.spans i).group n) [
          | inr other ↦ ap (λ (o : Option GroupEntry). slot_in o k) (get_or-set_other old.groups n (span_at old.spans i).group None None other.1)
          | inl own ↦ ap (λ (m : ℕ). slot_in (group_at (slice_set old.groups n None) m) k) own.1
              ∙ ap (λ (o : Option GroupEntry). slot_in o k) (get_or-set_same old.groups n None None (filled_below old.groups n a there))
              ∙ sym (ap (λ (m : ℕ). slot_in (group_at old.groups m) k) own.1 ∙ ap (λ (o : Option GroupEntry). slot_in o k) there ∙ none_counted a.slots k none)
        ]
