-- What keeps spans, groups and the table of virtual pages fit together.
use Rattle.std.proofs.Common.{◌≡◌, ℕ, zero, suc, ◌+◌, ◌*◌, ◌/◌, ◌<◌, ◌≤◌, true, false, List, [], ◌∷◌, ◌++◌, Option, Some, None, length, slice_index, slice_get, slice_index_or, IsSome, IfSome, ap, subst, refl, sym, ◌∙◌, arith, ◌⊎◌, inl, inr, is_some}
use Rattle.std.proofs.lemmas.List.{get_or_past}
use Rattle.std.proofs.Math.ListN.{get_or-append, length-append}
use Rattle.std.proofs.Math.Seq.{get_or-append_seam}
use Rattle.std.proofs.lemmas.Bool.Decides.{eqb_tells}
use Rattle.std.proofs.lemmas.Option.{get_or_from_slice_get, slice_get-get_or, slice_get_within}
use Rattle.mesh_class.specs.Classes.{pages_of, slots_of}
use Rattle.model_heap.specs.Table.{Slot, slot_address}
use Rattle.mesh_spans.specs.Index.{SpanEntry, GroupEntry, Index, span_at, group_at, no_span, new_span, new_group, IsSpan, IsIndex, IsMember, IsObject, IsOwned, IsVacant, IsLedTo, IsRecorded, AreUnused, Fits, named_in, record_at, span_record, slot_in}
use Rattle.mesh_spans.proofs.SlotLemmas.{IsGroup_new}

-- a place at which something stands is below the length
pub filled_below : {A : Type 0} (xs : List (Option A)) (n : ℕ) (x : A) → slice_index_or xs n None ≡ Some x → n < length xs
filled_below [] n x at = absurd (cc at)
filled_below (y ∷ xs) zero x at = omega arith
filled_below (y ∷ xs) (suc n) x at = let below = filled_below xs n x at in omega (arith, below)

-- an index with no span
pub IsIndex_empty : IsIndex [] []
IsIndex_empty = grind arith

-- no page of an index with no span has an owner
pub IsOwned_empty : (owners : List (Option ℕ)) → IsOwned [] [] owners
IsOwned_empty owners = record { owned = λ n place j group e. absurd (cc e) }

-- as many spans as there are end below the first unused page
below_unused : (spans : List SpanEntry) (groups : List (Option GroupEntry)) (first : ℕ) → 1 ≤ first
    → AreUnused (record { spans = spans; groups = groups }) first → IsIndex spans groups → length spans < first
below_unused spans groups first some unused sound = grind arith

-- so there is a number for one group more
pub one_more_fits : (spans : List SpanEntry) (groups : List (Option GroupEntry)) (first pages : ℕ) → 1 ≤ first → first + pages ≤ 65536
    → AreUnused (record { spans = spans; groups = groups }) first → IsIndex spans groups → length groups < 65536
one_more_fits spans groups first pages some last unused sound = omega (arith, below_unused _ _ _ some unused sound, sound.paired, last)

-- a number of a group is below 65,536
pub number_fits : (spans : List SpanEntry) (groups : List (Option GroupEntry)) (n : ℕ) → IsIndex spans groups → n < length groups → n < 65536
number_fits spans groups n sound below = grind arith

-- a group of a longer list is the new one or one that was there
added_was : (groups : List (Option GroupEntry)) (new : GroupEntry) (n : ℕ) (group : GroupEntry) → group_at (groups ++ Some new ∷ []) n ≡ Some group
    → (group_at groups n ≡ Some group) ⊎ ((group ≡ new) × (n ≡ length groups))
added_was [] new zero group e = inr ((let same : new ≡ group = cc e in sym same), refl)
added_was [] new (suc n) group e = absurd (cc e)
added_was (x ∷ groups) new zero group e = inl e
added_was (x ∷ groups) new (suc n) group e = grind (arith, added_was groups new n group e)

-- a span that was there
pub span_old : (spans : List SpanEntry) (new : SpanEntry) (i : ℕ) → i < length spans → span_at (spans ++ new ∷ []) i ≡ span_at spans i
span_old spans new i h = get_or-append spans (new ∷ []) no_span i h

-- the span that was added
pub span_new : (spans : List SpanEntry) (new : SpanEntry) → span_at (spans ++ new ∷ []) (length spans) ≡ new
span_new spans new = get_or-append_seam spans new [] no_span

-- what holds of each span and of the one that was added
each_span : (spans : List SpanEntry) (new : SpanEntry) (P : ℕ → SpanEntry → Type 0) → ((i : ℕ) → i < length spans → P i (span_at spans i)) → P (length spans) new
    → (j : ℕ) → j < length (spans ++ new ∷ []) → P j (span_at (spans ++ new ∷ []) j)
each_span spans new P old last j below = grind (arith, span_old, length-append, span_new)

-- spans and groups with one span more
pub IsIndex_add : (spans : List SpanEntry) (groups : List (Option GroupEntry)) (first class : ℕ) (pages : List ℕ) → IsSpan (new_span first class (length spans))
    → length pages ≡ pages_of class → AreUnused (record { spans = spans; groups = groups }) first → IsIndex spans groups
    → IsIndex (spans ++ new_span first class (length spans) ∷ []) (groups ++ Some (new_group class (length spans) pages) ∷ [])
IsIndex_add spans groups first class pages new paged unused sound =
    let added : SpanEntry = new_span first class (length spans) in
    let new_one : GroupEntry = new_group class (length spans) pages in
    let long = length-append spans (added ∷ []) in
    let more = length-append groups (Some new_one ∷ []) in
    record {
      span = each_span spans added (λ i s. IsSpan s) sound.span new;
      few = each_span spans added (λ i s. i < s.first) sound.few (below_unused spans groups first new.first unused sound);
      paired = omega (arith, long, more, sound.paired);
      each = λ n group at. elim (added_was groups new_one n group at) [
        | inl old ↦ sound.each n group old
        | inr last ↦ rw last.0 (IsGroup_new class (length spans) pages new.class paged)
      ];
      members = λ n place group at below. elim (added_was groups new_one n group at) [
        | inl old ↦ let is = sound.members n place group old below in record {
          below = omega (arith, is.below, long);
          same_class = rw (span_old spans added (slice_index group.members place) is.below) is.same_class;
          same_group = rw (span_old spans added (slice_index group.members place) is.below) is.same_group;
        }
        | inr last ↦ new_member n place (last.1 ∙ sound.paired) group last.0 (rw last.0 at below)
      ];
      numbered = each_span spans added (λ i s. s.group < length (groups ++ Some new_one ∷ [])) (λ i below. omega (arith, sound.numbered i below, more))
          (omega (arith, sound.paired, more));
      classes = λ i group below. each_span spans added (λ j s. group_at (groups ++ Some new_one ∷ []) s.group ≡ Some group → group.class ≡ s.class)
          (λ j old at. elim (added_was groups new_one (span_at spans j).group group at) [
            | inl was ↦ sound.classes j group old was
            | inr last ↦ absurd (omega (arith, sound.numbered j old, last.1))
          ])
          (λ at. elim (added_was groups new_one (length spans) group at) [
            | inl was ↦ absurd (let two : None ≡ Some group = sym (get_or_past groups (length spans) None (omega (arith, sound.paired))) ∙ was in cc two)
            | inr last ↦ ap (λ (g : GroupEntry). g.class) last.0
          ])
          i below;
    }
  where
    new_member : (n place : ℕ) → n ≡ length spans → (group : GroupEntry) → group ≡ new_group class (length spans) pages → place < 1
        → IsMember (spans ++ new_span first class (length spans) ∷ []) group n (slice_index group.members place)
    new_member n place at group is below = let zeroth : place ≡ 0 = omega (arith, below) in rw (is, zeroth) (record {
      below = omega (arith, length-append spans (new_span first class (length spans) ∷ []));
      same_class = ap (λ (s : SpanEntry). s.class) (span_new spans (new_span first class (length spans)));
      same_group = ap (λ (s : SpanEntry). s.group) (span_new spans (new_span first class (length spans))) ∙ sym at;
    })

-- the owners with one span more
pub IsOwned_add : (spans : List SpanEntry) (groups : List (Option GroupEntry)) (owners owners' : List (Option ℕ)) (first class : ℕ) (pages : List ℕ)
    → AreUnused (record { spans = spans; groups = groups }) first → IsIndex spans groups
    → ((v : ℕ) → first ≤ v → v < first + pages_of class → slice_index_or owners' v None ≡ Some (length spans))
    → ((v : ℕ) → v < first → slice_index_or owners' v None ≡ slice_index_or owners v None) → IsOwned spans groups owners
    → IsOwned (spans ++ new_span first class (length spans) ∷ []) (groups ++ Some (new_group class (length spans) pages) ∷ []) owners'
IsOwned_add spans groups owners owners' first class pages unused sound here below own = record {
  owned = λ n place j group at within page. elim (added_was groups (new_group class (length spans) pages) n group at) [
    | inl old ↦ old_owned n place j group old within page
    | inr last ↦ rw last.0 (new_owned place j (rw last.0 at within) (rw last.0 at page))
  ];
}
  where
    added : SpanEntry
    added = new_span first class (length spans)

    old_owned : (n place j : ℕ) (group : GroupEntry) → group_at groups n ≡ Some group → place < length group.members → j < pages_of group.class
        → slice_index_or owners' ((span_at (spans ++ added ∷ []) (slice_index group.members place)).first + j) None ≡ Some (slice_index group.members place)
    old_owned n place j group at within page =
        let is = sound.members n place group at within in
        rw (span_old spans added (slice_index group.members place) is.below) (below ((span_at spans (slice_index group.members place)).first + j)
        (omega (arith, unused (slice_index group.members place) is.below, page, ap pages_of is.same_class)) ∙ own.owned n place j group at within page)

    new_owned : (place j : ℕ) → place < 1 → j < pages_of class
        → slice_index_or owners' ((span_at (spans ++ added ∷ []) (slice_index (length spans ∷ []) place)).first + j) None ≡ Some (slice_index (length spans ∷ []) place)
    new_owned place j within page =
        let zeroth : place ≡ 0 = omega (arith, within) in
        rw (zeroth, span_new spans added) (here (first + j) (omega arith) (omega (arith, page)))

-- the page of an address in a slot of a member is one of the member's
page_within : (first size slots pages k o addr : ℕ) → k < slots → o < size → slots * size ≡ pages * 4096 → slot_address first size k + o ≡ addr
    → (addr / 4096 ≡ first + (k * size + o) / 4096) × ((k * size + o) / 4096 < pages)
page_within first size slots pages k o addr below small full at = grind arith

-- an address in a slot of a member belongs to the member's page, so the member owns it
address_owned : (spans : List SpanEntry) (groups : List (Option GroupEntry)) (owners : List (Option ℕ)) (n place k o addr : ℕ) (group : GroupEntry)
    → IsIndex spans groups → IsOwned spans groups owners → group_at groups n ≡ Some group → place < length group.members → k < slots_of group.class
    → o < group.class → slot_address (span_at spans (slice_index group.members place)).first group.class k + o ≡ addr
    → slice_index_or owners (addr / 4096) None ≡ Some (slice_index group.members place)
address_owned spans groups owners n place k o addr group sound own at within below small is =
    let page = page_within _ _ _ _ _ _ _ below small ((sound.each n group at).class.full) is in
    rw page.0 (own.owned n place ((k * group.class + o) / 4096) group at within page.1)

-- where an address in a slot of a member leads: its page is the member's, and the member's group is this one
pub record LeadsTo (spans : List SpanEntry) (groups : List (Option GroupEntry)) (owners : List (Option ℕ)) (addr n member : ℕ) (group : GroupEntry) : Type 0 where
  pub owner : slice_index_or owners (addr / 4096) None ≡ Some member
  pub got : slice_get spans member ≡ Some (span_at spans member)
  pub there : group_at groups (span_at spans member).group ≡ Some group
  pub led : IsLedTo (record { spans = spans; groups = groups }) n member group.class (Some member)

pub leads_to : (spans : List SpanEntry) (groups : List (Option GroupEntry)) (owners : List (Option ℕ)) (n place k o addr : ℕ) (group : GroupEntry)
    → IsIndex spans groups × IsOwned spans groups owners → group_at groups n ≡ Some group → place < length group.members → k < slots_of group.class
    → o < group.class → slot_address (span_at spans (slice_index group.members place)).first group.class k + o ≡ addr
    → LeadsTo spans groups owners addr n (slice_index group.members place) group
leads_to spans groups owners n place k o addr group sound at within below small is =
    let member = sound.0.members n place group at within in
    record {
      owner = address_owned spans groups owners n place k o addr group sound.0 sound.1 at within below small is;
      got = slice_get-get_or spans (slice_index group.members place) no_span member.below;
      there = ap (group_at groups) member.same_group ∙ at;
      led = record { found_is = refl; below = member.below; group_is = member.same_group; class_is = member.same_class };
    }

-- the same where a span was told to own the page: it is the member
pub leads_from : (spans : List SpanEntry) (groups : List (Option GroupEntry)) (owners : List (Option ℕ)) (n place k o addr : ℕ) (group : GroupEntry) (told : Option ℕ) (span : ℕ)
    → told ≡ slice_index_or owners (addr / 4096) None → told ≡ Some span
    → IsIndex spans groups × IsOwned spans groups owners → group_at groups n ≡ Some group → place < length group.members → k < slots_of group.class
    → o < group.class → slot_address (span_at spans (slice_index group.members place)).first group.class k + o ≡ addr
    → LeadsTo spans groups owners addr n (slice_index group.members place) group × (span ≡ slice_index group.members place)
leads_from spans groups owners n place k o addr group told span is_told was sound at within below small is =
    grind (arith, leads_to spans groups owners n place k o addr group sound at within below small is)

-- an object fits where the slot is vacant
pub vacant_fits : (index : Index) (span k : ℕ) (entry : Slot) → IsVacant index (span_at index.spans span).class span k
    → (1 ≤ entry.len) × (entry.len ≤ (span_at index.spans span).class) → Fits index.groups (span_at index.spans span).group k (Some entry)
vacant_fits index span k entry vacant fits group at = grind arith

-- what a record tells of its slot
pub record Recorded (index : Index) (span k : ℕ) : Type 0 where
  pub below : span < length index.spans
  pub group : GroupEntry
  pub there : group_at index.groups (span_at index.spans span).group ≡ Some group
  pub in_range : k < length group.slots
  pub filled : is_some (slice_index_or group.slots k None) ≡ true

recorded_in : (index : Index) (span k : ℕ) (o : Option GroupEntry) → span < length index.spans → group_at index.groups (span_at index.spans span).group ≡ o
    → IsSome (named_in (span_at index.spans span).first (slot_in o k)) → Recorded index span k
recorded_in index span k None below at some = absurd (let two : false ≡ true = some in cc two)
recorded_in index span k (Some group) below at some = grind (arith, get_or_past)

recorded_of : (index : Index) (span k : ℕ) (o : Option SpanEntry) → slice_get index.spans span ≡ o → IsSome (span_record o index.groups k) → Recorded index span k
recorded_of index span k None at some = absurd (let two : false ≡ true = some in cc two)
recorded_of index span k (Some entry) at some = grind (arith, get_or_from_slice_get, recorded_in, slice_get_within)

-- a slot with a record is one of its span's group
pub recorded : (index : Index) (span k : ℕ) → IsSome (record_at index span k) → Recorded index span k
recorded index span k some = recorded_of index span k (slice_get index.spans span) refl some

-- nothing fits into a slot with a record
pub nothing_fits : (index : Index) (span k : ℕ) → IsIndex index.spans index.groups → IsSome (record_at index span k)
    → Fits index.groups (span_at index.spans span).group k None
nothing_fits index span k sound some group at = grind (arith, recorded index span k some)

-- what a slot named so holds
named_is : (member serial len : ℕ) (o : Option Slot) → named_in member o ≡ Some (serial, len)
    → o ≡ Some (record { member = member; serial = serial; len = len })
named_is member serial len None e = absurd (let two : ◌≡◌ {A = Option (ℕ × ℕ)} None (Some (serial, len)) = e in cc two)
named_is member serial len (Some slot) e = elim (eqb_tells slot.member member) [
  | inl same ↦ named same.1 (rw same.0 at e)
  | inr other ↦ absurd (let two : ◌≡◌ {A = Option (ℕ × ℕ)} None (Some (serial, len)) = rw other.0 at e in cc two)
]
  where
    named : slot.member ≡ member → ◌≡◌ {A = Option (ℕ × ℕ)} (Some (slot.serial, slot.len)) (Some (serial, len))
        → Some slot ≡ Some (record { member = member; serial = serial; len = len })
    named at e =
        let same : ◌≡◌ {A = ℕ × ℕ} (slot.serial, slot.len) (serial, len) = cc e in
        rw (← at, ← (ap (λ (p : ℕ × ℕ). p.0) same), ← (ap (λ (p : ℕ × ℕ). p.1) same)) refl

-- an object is recorded where its record is
pub recorded_is : (index : Index) (spans : List SpanEntry) (groups : List (Option GroupEntry)) (span k serial len : ℕ)
    → record { spans = spans; groups = groups } ≡ index → IsIndex spans groups → record_at index span k ≡ Some (serial, len)
    → IsRecorded index span k serial len
recorded_is index spans groups span k serial len e sound is =
    let there = recorded _ _ _ (rw is refl) in
    let named : named_in (span_at index.spans span).first (slot_in (group_at index.groups (span_at index.spans span).group) k) ≡ Some (serial, len)
    = ap (λ (o : Option SpanEntry). span_record o index.groups k) (sym (slice_get-get_or index.spans span no_span there.below)) ∙ is in
    let slot : slice_index_or there.group.slots k None ≡ Some (record { member = (span_at index.spans span).first; serial = serial; len = len })
    = named_is _ _ _ _ (ap (λ (o : Option GroupEntry). named_in (span_at index.spans span).first (slot_in o k)) (sym there.there) ∙ named) in
    let sound' : IsIndex index.spans index.groups = subst (λ (x : Index). IsIndex x.spans x.groups) e sound in
    let group = sound'.each (span_at index.spans span).group there.group there.there in
    let object : IsObject there.group.class (Some (record { member = (span_at index.spans span).first; serial = serial; len = len }))
    = subst (λ (o : Option Slot). IsObject there.group.class o) slot (group.objects k) in
    record {
      below = there.below;
      group = there.group;
      there = there.there;
      same_class = sound'.classes span there.group there.below there.there;
      in_range = rw (← group.slots) there.in_range;
      filled = slice_get-get_or there.group.slots k None there.in_range ∙ ap Some slot;
      some = object.0;
      fits = object.1;
    }

-- what a look-up answers is recorded
pub recorded_if : (index : Index) (spans : List SpanEntry) (groups : List (Option GroupEntry)) (span k : ℕ) (result : Option (ℕ × ℕ))
    → record { spans = spans; groups = groups } ≡ index → IsIndex spans groups → result ≡ record_at index span k
    → IfSome result (λ r. IsRecorded index span k r.0 r.1)
recorded_if index spans groups span k None e sound is = tt
recorded_if index spans groups span k (Some r) e sound is = recorded_is index spans groups span k r.0 r.1 e sound (sym is)
