-- What a span that is added leaves of an index.
use Rattle.std.proofs.Common.{◌≡◌, ℕ, zero, suc, ◌+◌, ◌<◌, ◌≤◌, List, [], ◌∷◌, ◌++◌, Option, Some, None, length, ap, subst, refl, sym, ◌∙◌, arith, inl, inr}
use Rattle.std.proofs.lemmas.Bool.Decides.{eqb_tells, leb_tells}
use Rattle.std.proofs.Math.ListN.{get_or-append, length-append}
use Rattle.std.proofs.Math.Seq.{get_or-append_seam}
use Rattle.mesh_class.specs.Classes.{pages_of, slots_of}
use Rattle.mesh_spans.proofs.IndexLemmas.{span_new, span_old}
use Rattle.mesh_spans.proofs.SlotLemmas.{none_in}
use Rattle.mesh_spans.specs.Groups.{is_closed, is_in_mesh}
use Rattle.mesh_spans.specs.Index.{AreUnused, GroupEntry, Index, IsIndex, SpanEntry, group_at, named_in, new_group, new_span, record_at, slot_in, span_at}
use Rattle.savings_replay.proofs.SlotRecords.{no_record, record_is}
use Rattle.savings_replay.specs.Growth.{IsAdded}
use Rattle.savings_replay.specs.Placement.{FirstsAscend}
use Rattle.savings_replay.specs.Records.{KeepsRecords}

module _ (old new : Index) (class first span : ℕ) (sound : IsIndex old.spans old.groups) (added : IsAdded old new class first span) where
  -- the spans that there were
  pub old_there : (i : ℕ) → i < length old.spans → span_at new.spans i ≡ span_at old.spans i
  old_there i below = ap (λ (xs : List SpanEntry). span_at xs i) added.spans ∙ span_old old.spans (new_span first class span) i below

  -- and the new one
  pub new_there : span_at new.spans span ≡ new_span first class span
  new_there = ap (λ (xs : List SpanEntry). span_at xs span) added.spans ∙ ap (span_at (old.spans ++ new_span first class span ∷ [])) added.number
      ∙ span_new old.spans (new_span first class span)

  pub one_more : length new.spans ≡ length old.spans + 1
  one_more = ap (λ (xs : List SpanEntry). length xs) added.spans ∙ length-append old.spans (new_span first class span ∷ [])

  -- the groups that there were
  group_old : (n : ℕ) → n < length old.groups → group_at new.groups n ≡ group_at old.groups n
  group_old n below = ap (λ (gs : List (Option GroupEntry)). group_at gs n) added.groups
      ∙ get_or-append old.groups (Some (new_group class span added.pages) ∷ []) None n below

  -- and the new one
  group_new : group_at new.groups span ≡ Some (new_group class span added.pages)
  group_new = ap (λ (gs : List (Option GroupEntry)). group_at gs span) added.groups
      ∙ ap (group_at (old.groups ++ Some (new_group class span added.pages) ∷ [])) (added.number ∙ sym sound.paired)
      ∙ get_or-append_seam old.groups (Some (new_group class span added.pages)) [] None

  -- each slot has the record that it had, and the new span has none
  pub added_records : KeepsRecords old new
  added_records i k = elim (leb_tells (i + 1) (length old.spans)) [
    | inl l ↦ let below : i < length old.spans = (let low = l.1 in omega (arith, low)) in
        record_is new i k (let m = one_more in omega (arith, m, below))
        ∙ ap (λ (s : SpanEntry). named_in s.first (slot_in (group_at new.groups s.group) k)) (old_there i below)
        ∙ ap (λ (o : Option GroupEntry). named_in (span_at old.spans i).first (slot_in o k)) (group_old (span_at old.spans i).group (sound.numbered i below))
        ∙ sym (record_is old i k below)
    | inr l ↦ let past : length old.spans ≤ i = (let high = l.1 in omega (arith, high)) in elim (eqb_tells i span) [
      | inl same ↦ subst (λ (j : ℕ). record_at new j k ≡ record_at old j k) (sym same.1)
          (record_is new span k (let m = one_more in let n = added.number in omega (arith, m, n))
          ∙ ap (λ (s : SpanEntry). named_in s.first (slot_in (group_at new.groups s.group) k)) new_there
          ∙ ap (λ (o : Option GroupEntry). named_in first (slot_in o k)) group_new ∙ ap (named_in first) (none_in (slots_of class) k)
          ∙ sym (no_record old span k (let n = added.number in omega (arith, n))))
      | inr other ↦ no_record new i k (let m = one_more in let n = added.number in let o = other.1 in omega (arith, m, n, o, past))
          ∙ sym (no_record old i k past)
    ]
  ]

  -- the first pages of the spans ascend
  pub added_ascend : FirstsAscend old.spans → AreUnused old first → ((i : ℕ) → i < length old.spans → 1 ≤ pages_of (span_at old.spans i).class) → FirstsAscend new.spans
  added_ascend ascend unused some i j less below = elim (leb_tells (j + 1) (length old.spans)) [
    | inl l ↦ let low : j < length old.spans = (let h = l.1 in omega (arith, h)) in
        rw (old_there i (omega (arith, less, low)), old_there j low) (ascend i j less low)
    | inr l ↦
        let last : j ≡ span = (let h = l.1 in let m = one_more in let n = added.number in omega (arith, h, m, n, below)) in
        let low : i < length old.spans = (let n = added.number in omega (arith, less, last, n)) in
        rw (old_there i low, last, new_there) (let u = unused i low in let s = some i low in omega (arith, u, s))
  ]

  -- every span still ends below the unused pages
  pub added_unused : AreUnused old first → AreUnused new (first + pages_of class)
  added_unused unused i below = elim (leb_tells (i + 1) (length old.spans)) [
    | inl l ↦ let low : i < length old.spans = (let h = l.1 in omega (arith, h)) in rw (old_there i low) (let u = unused i low in omega (arith, u))
    | inr l ↦ let last : i ≡ span = (let h = l.1 in let m = one_more in let n = added.number in omega (arith, h, m, n, below)) in
        rw (last, new_there) (omega arith)
  ]

-- the flags stay where a group in no mesh is added
flags_added : (groups : List (Option GroupEntry)) (class member n : ℕ) (pages : List ℕ)
    → is_in_mesh (group_at (groups ++ Some (new_group class member pages) ∷ []) n) ≡ is_in_mesh (group_at groups n)
flags_added [] class member zero pages = refl
flags_added [] class member (suc n) pages = refl
flags_added (x ∷ groups) class member zero pages = refl
flags_added (x ∷ groups) class member (suc n) pages = flags_added groups class member n pages

pub added_flags : (old new : Index) (class first span n : ℕ) → IsAdded old new class first span → is_closed new n ≡ is_closed old n
added_flags old new class first span n added =
    ap (λ (gs : List (Option GroupEntry)). is_in_mesh (group_at gs n)) added.groups ∙ flags_added old.groups class span n added.pages
