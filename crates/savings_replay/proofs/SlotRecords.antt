-- The records of slots as the index changes at one slot or one group.
use Rattle.std.proofs.Common.{◌≡◌, ◌≢◌, ℕ, ◌+◌, ◌<◌, ◌≤◌, ◌⊎◌, List, Option, Some, None, IfSome, length, ap, subst, refl, sym, ◌∙◌, arith, inl, inr}
use Rattle.std.specs.Option.{option_map}
use Rattle.std.proofs.lemmas.Bool.{ne_eqb}
use Rattle.std.proofs.lemmas.Bool.Decides.{eqb_tells, leb_tells}
use Rattle.std.proofs.lemmas.List.{get_or-set_other, get_or-set_same, set_past}
use Rattle.std.proofs.lemmas.Option.{slice_get-get_or, slice_get_past}
use Rattle.mesh_spans.proofs.IndexLemmas.{filled_below}
use Rattle.mesh_spans.specs.Index.{GroupEntry, Index, SpanEntry, group_at, named_in, no_span, record_at, slot_in, span_at, span_record, with_entry, with_slot}
use Rattle.model_heap.specs.Table.{Slot}
use Rattle.savings_replay.specs.Placement.{FirstsAscend}
use Rattle.savings_replay.specs.Records.{KeepsOthers}

-- the object in a slot of a span's group, if there is one
abbrev pub slot_of : Index → ℕ → ℕ → Option Slot
slot_of index span k = slot_in (group_at index.groups (span_at index.spans span).group) k

-- the record of a slot of a span
pub record_is : (index : Index) (span k : ℕ) → span < length index.spans → record_at index span k ≡ named_in (span_at index.spans span).first (slot_of index span k)
record_is index span k below = ap (λ (o : Option SpanEntry). span_record o index.groups k) (slice_get-get_or index.spans span no_span below)

-- a span that there is not has no record
pub no_record : (index : Index) (span k : ℕ) → length index.spans ≤ span → record_at index span k ≡ None
no_record index span k past = ap (λ (o : Option SpanEntry). span_record o index.groups k) (slice_get_past index.spans span past)

-- records are the same where spans are as many, begin at the same pages, and their slots are named alike
pub records_same : (old new : Index) (span k : ℕ) → length new.spans ≡ length old.spans → (span_at new.spans span).first ≡ (span_at old.spans span).first
    → (span < length old.spans → named_in (span_at old.spans span).first (slot_of new span k) ≡ named_in (span_at old.spans span).first (slot_of old span k))
    → record_at new span k ≡ record_at old span k
records_same old new span k long first same = elim (leb_tells (length old.spans) span) [
  | inl past ↦ no_record new span k (omega (arith, past.1, long)) ∙ sym (no_record old span k past.1)
  | inr below ↦ record_is new span k (omega (arith, below.1, long)) ∙ ap (λ (v : ℕ). named_in v (slot_of new span k)) first ∙ same below.1
      ∙ sym (record_is old span k below.1)
]

-- two spans do not begin at one page
pub firsts_apart : (spans : List SpanEntry) (i j : ℕ) → FirstsAscend spans → i < length spans → j < length spans → i ≢ j
    → (span_at spans i).first ≢ (span_at spans j).first
firsts_apart spans i j ascend below below' other same = elim (leb_tells (i + 1) j) [
  | inl less ↦ let up = ascend i j (let l = less.1 in omega (arith, l)) below' in omega (arith, up, same)
  | inr more ↦ let up = ascend j i (let m = more.1 in omega (arith, m, other)) below in omega (arith, up, same)
]

-- the object in a slot, if there is one, is of a member
abbrev pub IsOf : ℕ → Option Slot → Type 0
IsOf member slot = IfSome slot (λ x. x.member ≡ member)

-- it is no object of another member
pub not_named : (member other : ℕ) (slot : Option Slot) → IsOf member slot → other ≢ member → named_in other slot ≡ None
not_named member other None of apart = refl
not_named member other (Some x) of apart = rw (ne_eqb x.member other (λ same. apart (sym same ∙ of))) refl

-- the slots of the other groups, and the other slots of the group, stay
pub slot_stays : (groups : List (Option GroupEntry)) (n k m j : ℕ) (entry : Option Slot) → (m ≢ n) ⊎ (j ≢ k)
    → slot_in (group_at (with_entry groups n k entry) m) j ≡ slot_in (group_at groups m) j
slot_stays groups n k m j entry (inl other) =
    ap (λ (o : Option GroupEntry). slot_in o j) (get_or-set_other groups n m (option_map (with_slot k entry) (group_at groups n)) None other)
slot_stays groups n k m j entry (inr other) = elim (eqb_tells m n) [
  | inr apart ↦ ap (λ (o : Option GroupEntry). slot_in o j) (get_or-set_other groups n m (option_map (with_slot k entry) (group_at groups n)) None apart.1)
  | inl same ↦ subst (λ (x : ℕ). slot_in (group_at (with_entry groups n k entry) x) j ≡ slot_in (group_at groups x) j) (sym same.1) here
]
  where
    changed : (o : Option GroupEntry) → slot_in (option_map (with_slot k entry) o) j ≡ slot_in o j
    changed None = refl
    changed (Some g) = get_or-set_other g.slots k j entry None other

    here : slot_in (group_at (with_entry groups n k entry) n) j ≡ slot_in (group_at groups n) j
    here = elim (leb_tells (length groups) n) [
      | inr below ↦ ap (λ (o : Option GroupEntry). slot_in o j) (get_or-set_same groups n (option_map (with_slot k entry) (group_at groups n)) None below.1)
          ∙ changed (group_at groups n)
      | inl past ↦ ap (λ (gs : List (Option GroupEntry)). slot_in (group_at gs n) j) (set_past groups n (option_map (with_slot k entry) (group_at groups n)) past.1)
    ]

-- the slot of the group has the entry
pub slot_put : (groups : List (Option GroupEntry)) (n k : ℕ) (group : GroupEntry) (entry : Option Slot) → group_at groups n ≡ Some group → k < length group.slots
    → slot_in (group_at (with_entry groups n k entry) n) k ≡ entry
slot_put groups n k group entry at within =
    ap (λ (o : Option GroupEntry). slot_in o k) (get_or-set_same groups n (option_map (with_slot k entry) (group_at groups n)) None (filled_below groups n group at))
    ∙ ap (λ (o : Option GroupEntry). slot_in (option_map (with_slot k entry) o) k) at ∙ get_or-set_same group.slots k entry None within

-- an entry of a member put into a slot that had none, or one of this member, leaves the other records
pub others_stay : (old new : Index) (span k : ℕ) (entry : Option Slot) → FirstsAscend old.spans → span < length old.spans → new.spans ≡ old.spans
    → new.groups ≡ with_entry old.groups (span_at old.spans span).group k entry → IsOf (span_at old.spans span).first (slot_of old span k)
    → IsOf (span_at old.spans span).first (slot_of new span k) → KeepsOthers old new span k
others_stay old new span k entry ascend below spans groups of of' other j apart =
    records_same old new other j (ap (λ (xs : List SpanEntry). length xs) spans) (ap (λ (xs : List SpanEntry). (span_at xs other).first) spans)
    (λ within. named within apart)
  where
    -- the slot of the other span is one of the old list of spans
    here : (s i : ℕ) → slot_of new s i ≡ slot_in (group_at (with_entry old.groups (span_at old.spans span).group k entry) (span_at old.spans s).group) i
    here s i = ap (λ (xs : List SpanEntry). slot_in (group_at new.groups (span_at xs s).group) i) spans
        ∙ ap (λ (gs : List (Option GroupEntry)). slot_in (group_at gs (span_at old.spans s).group) i) groups

    named : other < length old.spans → (other ≢ span) ⊎ (j ≢ k)
        → named_in (span_at old.spans other).first (slot_of new other j) ≡ named_in (span_at old.spans other).first (slot_of old other j)
    named within (inr differ) = ap (named_in (span_at old.spans other).first)
        (here other j ∙ slot_stays old.groups (span_at old.spans span).group k (span_at old.spans other).group j entry (inr differ))
    named within (inl differ) = elim (eqb_tells (span_at old.spans other).group (span_at old.spans span).group) [
      | inr apart_groups ↦ ap (named_in (span_at old.spans other).first)
          (here other j ∙ slot_stays old.groups (span_at old.spans span).group k (span_at old.spans other).group j entry (inl apart_groups.1))
      | inl same_group ↦ elim (eqb_tells j k) [
        | inr apart_slots ↦ ap (named_in (span_at old.spans other).first)
            (here other j ∙ slot_stays old.groups (span_at old.spans span).group k (span_at old.spans other).group j entry (inr apart_slots.1))
        | inl same_slot ↦
            let firsts = firsts_apart old.spans other span ascend within below differ in
            let was : slot_of old other j ≡ slot_of old span k
            = ap (λ (n : ℕ). slot_in (group_at old.groups n) j) same_group.1 ∙ ap (slot_of old span) same_slot.1 in
            let now : slot_of new other j ≡ slot_of new span k
            = here other j ∙ ap (λ (n : ℕ). slot_in (group_at (with_entry old.groups (span_at old.spans span).group k entry) n) j) same_group.1
            ∙ sym (here span j) ∙ ap (slot_of new span) same_slot.1 in
            ap (named_in (span_at old.spans other).first) now ∙ not_named (span_at old.spans span).first (span_at old.spans other).first (slot_of new span k) of' firsts
            ∙ sym (ap (named_in (span_at old.spans other).first) was
            ∙ not_named (span_at old.spans span).first (span_at old.spans other).first (slot_of old span k) of firsts)
      ]
    ]
