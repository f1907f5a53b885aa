-- What a new object leaves of a placement.
use Rattle.std.proofs.Common.{◌≡◌, ◌≢◌, ℕ, ◌+◌, ◌-◌, ◌%◌, ◌<◌, ◌≤◌, Bool, false, not, ◌&&◌, ◌⊎◌, nat_eq, nat_lt, List, [], ◌∷◌, ◌++◌, Option, Some, None, Result, Ok, IsSomeAnd, find, length, map, ap, subst, refl, sym, ◌∙◌, arith, length-append}
use Rattle.std.proofs.lemmas.Bool.{eq-eqb}
use Rattle.std.proofs.lemmas.Option.{get_or_from_slice_get, slice_get_within}
use Rattle.model_memory.specs.Plain.{made}
use Rattle.model_heap.proofs.CountedPages.{new_counted}
use Rattle.model_heap.proofs.NewObjects.{new_sound}
use Rattle.model_heap.proofs.NewPlaces.{fresh_picked}
use Rattle.model_heap.proofs.OpenGroups.{found_open, open_tests}
use Rattle.model_heap.proofs.TiedNewObjects.{new_tied}
use Rattle.model_heap.specs.Table.{Group, Placed, Table, changed_at, first_member, fresh_group, is_open, object_count, picked_slot, place_in, place_new, placed_in, room_for_span, slot_address, takes_objects, with_object_in, with_span}
use Rattle.model_words.specs.Classes.{class_for}
use Rattle.model_words.specs.Words.{◌>>=◌}
use Rattle.model_words.specs.declared.refusals.Refusal.{Refusal}
use Rattle.mesh_class.specs.Classes.{IsClass, pages_of, slots_of}
use Rattle.mesh_spans.specs.Groups.{IsPicked, groups_of, is_closed}
use Rattle.mesh_spans.specs.Index.{AreUnused, GroupEntry, Index, IsIndex, IsVacant, SpanEntry, address_in, named_in, record_at, slot_in, span_at, with_entry}
use Rattle.savings_replay.proofs.AddedSpans.{added_ascend, added_flags, added_records, added_unused, new_there, old_there, one_more}
use Rattle.savings_replay.proofs.Freed.{first_page, group_number, object_in}
use Rattle.savings_replay.proofs.SlotRecords.{IsOf, no_record, others_stay, record_is, slot_of, slot_put}
use Rattle.savings_replay.specs.Growth.{IsAdded}
use Rattle.savings_replay.specs.Placement.{FirstsAscend, GoesToSpan, HasMemory, IsMade, IsPlacement, Placement, table_of, supply}

-- an object was put into a slot of a span, and nothing else of the index changed
pub record IsOccupied (old new : Index) (span k serial len : ℕ) : Type 0 where
  pub spans : new.spans ≡ old.spans
  pub groups : new.groups ≡ with_entry old.groups (group_number old span) k (Some (object_in old span serial len))
  pub table : groups_of new ≡ map (changed_at (group_number old span) (with_object_in k (object_in old span serial len))) (groups_of old)
  pub closed : (n : ℕ) → is_closed new n ≡ is_closed old n

-- the groups with an object in a slot of a group
abbrev pub put_in : List Group → ℕ → ℕ → ℕ → ℕ → ℕ → List Group
put_in groups n k member serial len = map (changed_at n (with_object_in k (record { member = member; serial = serial; len = len }))) groups

-- what a vacant slot has once an object is put there
module _ (old new : Index) (class span k serial len : ℕ) (vacant : IsVacant old class span k) (put : IsOccupied old new span k serial len) where
  slot_was : slot_of old span k ≡ None
  slot_was = ap (λ (o : Option GroupEntry). slot_in o k) vacant.there ∙ get_or_from_slice_get vacant.group.slots k None None vacant.free

  slot_now : slot_of new span k ≡ Some (object_in old span serial len)
  slot_now = ap (λ (xs : List SpanEntry). slot_of (record { spans = xs; groups = new.groups }) span k) put.spans
      ∙ ap (λ (gs : List (Option GroupEntry)). slot_of (record { spans = old.spans; groups = gs }) span k) put.groups
      ∙ slot_put old.groups (group_number old span) k vacant.group (Some (object_in old span serial len)) vacant.there
      (slice_get_within vacant.group.slots k None vacant.free)

  pub none_recorded : record_at old span k ≡ None
  none_recorded = record_is old span k vacant.below ∙ ap (named_in (first_page old span)) slot_was

  pub now_recorded : record_at new span k ≡ Some (serial, len)
  now_recorded = record_is new span k (subst (λ (xs : List SpanEntry). span < length xs) (sym put.spans) vacant.below)
      ∙ ap (λ (xs : List SpanEntry). named_in (span_at xs span).first (slot_of new span k)) put.spans
      ∙ ap (named_in (first_page old span)) slot_now ∙ rw (eq-eqb (first_page old span) (first_page old span) refl) refl

  pub put_others : FirstsAscend old.spans → (other j : ℕ) → (other ≢ span) ⊎ (j ≢ k) → record_at new other j ≡ record_at old other j
  put_others ascend = others_stay old new span k (Some (object_in old span serial len)) ascend vacant.below put.spans put.groups
      (subst (IsOf (first_page old span)) (sym slot_was) tt) (subst (IsOf (first_page old span)) (sym slot_now) refl)

-- a new object placed in a group of its class
pub placed_new : (t : Table) (len word serial class : ℕ) (r : Result Placed Refusal) → class_for len ≡ Some class → 1 ≤ len
    → place_in (find (is_open t class) t.groups) t class word serial len ≡ r → place_new t len word serial ≡ r
placed_new t len word serial class r class_is some is = grind arith

-- and one placed in a new span
spanned_new : (t : Table) (len word serial class : ℕ) → GoesToSpan t len class → room_for_span t class ≡ Ok tt
    → place_new t len word serial ≡ Ok (placed_in (with_span t class) (fresh_group t.next_span class t.next_page) word serial len)
spanned_new t len word serial class goes room = placed_new t len word serial class (Ok (placed_in (with_span t class) (fresh_group t.next_span class t.next_page) word serial len))
    goes.class_is goes.some (ap (λ (o : Option Group). place_in o t class word serial len) goes.none_open
    ∙ ap (λ (r : Result (Unit {0}) Refusal). r >>= λ _. Ok (placed_in (with_span t class) (fresh_group t.next_span class t.next_page) word serial len)) room)

-- where an object was placed, the placement has what it keeps of its table
module _ (old new : Placement) (len word address : ℕ) (kept : IsPlacement old)
    (went : place_new (table_of old) len word old.next_serial ≡ Ok (record { address = address; table = table_of new }))
    (next : new.next_serial ≡ old.next_serial + 1) where
  named_now : HasMemory new.next_serial (table_of new)
  named_now = record {
    memory = made kept.named.memory 0 len address;
    next_is = length-append kept.named.memory.objects _ ∙ ap (λ (n : ℕ). n + 1) kept.named.next_is ∙ sym next;
    tied = new_tied kept.named.memory (table_of old) 0 len word (record { address = address; table = table_of new }) kept.sound kept.named.tied
        (ap (place_new (table_of old) len word) kept.named.next_is ∙ went);
  }

  pub placed_kept : new.taken_pages < new.next_page → AreUnused new.index new.next_page → FirstsAscend new.index.spans
      → ((n : ℕ) → is_closed new.index n ≡ false) → IsPlacement new
  placed_kept few unused ascending calm = record {
    sound = new_sound (table_of old) len word old.next_serial (record { address = address; table = table_of new }) kept.sound went;
    named = named_now;
    few = few;
    counted = new_counted supply (table_of old) len word old.next_serial (record { address = address; table = table_of new }) kept.sound kept.counted went;
    unused = unused;
    ascending = ascending;
    calm = calm;
  }

-- two tests that agree find the same
find_same : (f g : Group → Bool) (groups : List Group) → ((group : Group) → f group ≡ g group) → find f groups ≡ find g groups
find_same f g [] same = refl
find_same f g (x ∷ groups) same = grind arith

-- the index's lowest open group is the table's
pub open_same : (p : Placement) (class : ℕ) → ((n : ℕ) → is_closed p.index n ≡ false)
    → find (takes_objects (is_closed p.index) class) (groups_of p.index) ≡ find (is_open (table_of p) class) (groups_of p.index)
open_same p class calm = find_same (takes_objects (is_closed p.index) class) (is_open (table_of p) class) (groups_of p.index)
    (λ group. ap (λ (b : Bool). nat_eq group.class class && not b && nat_lt (object_count group) (length group.slots)) (calm group.number))

-- where the slot picked in the lowest open group takes the object
module _ (old : Placement) (new : Index) (class len word span k : ℕ) (group : Group) (kept : IsPlacement old) (class_is : class_for len ≡ Some class) (some : 1 ≤ len)
    (found : find (is_open (table_of old) class) (groups_of old.index) ≡ Some group) (picked : IsPicked old.index group word span k)
    (vacant : IsVacant old.index class span k) (put : IsOccupied old.index new span k old.next_serial len) where
  abbrev after : Placement
  after = record old { index = new; next_serial = old.next_serial + 1 }

  group_class : group.class ≡ class
  group_class = ((open_tests (table_of old) class group).0 (found_open (table_of old) class group found)).0

  groups_now : put_in (groups_of old.index) group.number (picked_slot group word) (first_member group) old.next_serial len ≡ groups_of new
  groups_now = sym (put.table
      ∙ ap (λ (n : ℕ). put_in (groups_of old.index) n k (first_page old.index span) old.next_serial len) picked.number
      ∙ ap (λ (m : ℕ). put_in (groups_of old.index) group.number k m old.next_serial len) picked.member
      ∙ ap (λ (j : ℕ). put_in (groups_of old.index) group.number j (first_member group) old.next_serial len) picked.slot)

  address_now : slot_address (first_member group) group.class (picked_slot group word) ≡ address_in (span_at new.spans span) k
  address_now = sym (ap (λ (xs : List SpanEntry). address_in (span_at xs span) k) put.spans
      ∙ ap (λ (m : ℕ). slot_address m (span_at old.index.spans span).class k) picked.member
      ∙ ap (λ (c : ℕ). slot_address (first_member group) c k) (vacant.of_class ∙ sym group_class)
      ∙ ap (slot_address (first_member group) group.class) picked.slot)

  went : place_new (table_of old) len word old.next_serial ≡ Ok (record { address = address_in (span_at new.spans span) k; table = table_of after })
  went =
      let address : ℕ = address_in (span_at new.spans span) k in
      let groups : List Group = put_in (groups_of old.index) group.number (picked_slot group word) (first_member group) old.next_serial len in
      let by_address : ℕ → Result Placed Refusal = λ a. Ok (record { address = a; table = record (table_of old) { groups = groups } }) in
      let by_groups : List Group → Result Placed Refusal = λ gs. Ok (record { address = address; table = record (table_of old) { groups = gs } }) in
      let by_spans : List SpanEntry → Result Placed Refusal
      = λ xs. Ok (record { address = address; table = record (table_of old) { next_span = length xs; groups = groups_of new } }) in
      placed_new (table_of old) len word old.next_serial class (Ok (record { address = address; table = table_of after })) class_is some
      (ap (λ (o : Option Group). place_in o (table_of old) class word old.next_serial len) found
      ∙ ap by_address address_now ∙ ap by_groups groups_now ∙ ap by_spans (sym put.spans))

  kept_open : IsPlacement after
  kept_open = placed_kept old after len word (address_in (span_at new.spans span) k) kept went refl kept.few
      (subst (λ (xs : List SpanEntry). AreUnused (record { spans = xs; groups = new.groups }) old.next_page) (sym put.spans) kept.unused)
      (subst FirstsAscend (sym put.spans) kept.ascending) (λ n. put.closed n ∙ kept.calm n)

  made_open : IsMade old after len word span k
  made_open = record {
    placed = went;
    serial = refl;
    vacant = none_recorded old.index new class span k old.next_serial len vacant put;
    recorded = now_recorded old.index new class span k old.next_serial len vacant put;
    others = put_others old.index new class span k old.next_serial len vacant put kept.ascending;
    addresses = λ other j below. ap (λ (xs : List SpanEntry). address_in (span_at xs other) j) put.spans;
  }

-- the object made in the lowest open group
pub placed_open : (old : Placement) (new : Index) (class len word span k : ℕ) → IsPlacement old → class_for len ≡ Some class → 1 ≤ len
    → IsSomeAnd (find (takes_objects (is_closed old.index) class) (groups_of old.index)) (λ group. IsPicked old.index group word span k)
    → IsVacant old.index class span k → IsOccupied old.index new span k old.next_serial len
    → IsPlacement (record old { index = new; next_serial = old.next_serial + 1 })
    × IsMade old (record old { index = new; next_serial = old.next_serial + 1 }) len word span k
placed_open old new class len word span k kept class_is some picked vacant put =
    go (find (is_open (table_of old) class) (groups_of old.index)) refl
    (subst (λ (o : Option Group). IsSomeAnd o (λ group. IsPicked old.index group word span k)) (open_same old class kept.calm) picked)
  where
    go : (o : Option Group) → find (is_open (table_of old) class) (groups_of old.index) ≡ o → IsSomeAnd o (λ group. IsPicked old.index group word span k)
        → IsPlacement (record old { index = new; next_serial = old.next_serial + 1 })
        × IsMade old (record old { index = new; next_serial = old.next_serial + 1 }) len word span k
    go None found none = absurd none
    go (Some group) found is = (
      kept_open old new class len word span k group kept class_is some found is vacant put,
      made_open old new class len word span k group kept class_is some found is vacant put,
    )

-- where a new span takes the object
module _ (old : Placement) (mid new : Index) (class len word span k count : ℕ) (kept : IsPlacement old) (sound : IsIndex old.index.spans old.index.groups)
    (of_class : IsClass class) (goes : GoesToSpan (table_of old) len class) (count_is : count ≡ pages_of class) (physical : count ≤ supply - old.taken_pages)
    (virtual : count ≤ 65536 - old.next_page) (added : IsAdded old.index mid class old.next_page span) (at : k ≡ word % slots_of class)
    (put : IsOccupied mid new span k old.next_serial len) where
  abbrev grown : Placement
  grown = record { index = new; next_page = old.next_page + count; taken_pages = old.taken_pages + count; next_serial = old.next_serial + 1 }

  some_slot : 1 ≤ slots_of class
  some_slot = let two = of_class.some_slot in omega (arith, two)

  vacant_slot : IsVacant mid class span k
  vacant_slot = added.vacant k (rw at (let some = some_slot in omega (arith, some)))

  own_group : group_number mid span ≡ length old.index.spans
  own_group = ap (λ (s : SpanEntry). s.group) (new_there old.index mid class old.next_page span sound added) ∙ added.number

  own_page : first_page mid span ≡ old.next_page
  own_page = ap (λ (s : SpanEntry). s.first) (new_there old.index mid class old.next_page span sound added)

  fresh_slot : k ≡ picked_slot (fresh_group (length old.index.spans) class old.next_page) word
  fresh_slot = at ∙ sym (fresh_picked (length old.index.spans) class old.next_page word some_slot)

  span_groups : put_in (groups_of old.index ++ fresh_group (length old.index.spans) class old.next_page ∷ []) (length old.index.spans)
      (picked_slot (fresh_group (length old.index.spans) class old.next_page) word) old.next_page old.next_serial len ≡ groups_of new
  span_groups = sym (put.table
      ∙ ap (λ (n : ℕ). put_in (groups_of mid) n k (first_page mid span) old.next_serial len) own_group
      ∙ ap (λ (m : ℕ). put_in (groups_of mid) (length old.index.spans) k m old.next_serial len) own_page
      ∙ ap (λ (gs : List Group). put_in gs (length old.index.spans) k old.next_page old.next_serial len)
      (added.table ∙ ap (λ (n : ℕ). groups_of old.index ++ fresh_group n class old.next_page ∷ []) added.number)
      ∙ ap (λ (j : ℕ). put_in (groups_of old.index ++ fresh_group (length old.index.spans) class old.next_page ∷ []) (length old.index.spans) j old.next_page old.next_serial len)
      fresh_slot)

  span_address : slot_address old.next_page class (picked_slot (fresh_group (length old.index.spans) class old.next_page) word)
      ≡ address_in (span_at new.spans span) k
  span_address = sym (ap (λ (xs : List SpanEntry). address_in (span_at xs span) k) put.spans
      ∙ ap (λ (s : SpanEntry). address_in s k) (new_there old.index mid class old.next_page span sound added)
      ∙ ap (slot_address old.next_page class) fresh_slot)

  more_spans : length new.spans ≡ length old.index.spans + 1
  more_spans = ap (λ (xs : List SpanEntry). length xs) put.spans ∙ one_more old.index mid class old.next_page span sound added

  has_room : room_for_span (table_of old) class ≡ Ok tt
  has_room = grind arith

  grown_table : (placed_in (with_span (table_of old) class) (fresh_group (length old.index.spans) class old.next_page) word old.next_serial len).table ≡ table_of grown
  grown_table =
      let a : old.next_page + pages_of class ≡ old.next_page + count = omega (arith, count_is) in
      let b : (supply - old.taken_pages) - pages_of class ≡ supply - (old.taken_pages + count) = omega (arith, count_is) in
      let c : length old.index.spans + 1 ≡ length new.spans = sym more_spans in
      ap (λ (gs : List Group). record (with_span (table_of old) class) { groups = gs }) span_groups
      ∙ ap (λ (n : ℕ). record (with_span (table_of old) class) { next_page = n; groups = groups_of new }) a
      ∙ ap (λ (n : ℕ). record (with_span (table_of old) class) { next_page = old.next_page + count; free_pages = n; groups = groups_of new }) b
      ∙ ap (λ (n : ℕ). record (table_of grown) { next_span = n }) c

  span_went : place_new (table_of old) len word old.next_serial ≡ Ok (record { address = address_in (span_at new.spans span) k; table = table_of grown })
  span_went =
      let placed : Placed = placed_in (with_span (table_of old) class) (fresh_group (length old.index.spans) class old.next_page) word old.next_serial len in
      let by_address : ℕ → Result Placed Refusal = λ a. Ok (record { address = a; table = placed.table }) in
      let by_table : Table → Result Placed Refusal = λ t. Ok (record { address = address_in (span_at new.spans span) k; table = t }) in
      spanned_new (table_of old) len word old.next_serial class goes has_room ∙ ap by_address span_address ∙ ap by_table grown_table

  mid_ascend : FirstsAscend mid.spans
  mid_ascend = added_ascend old.index mid class old.next_page span sound added kept.ascending kept.unused (λ i below. (sound.span i below).class.some_page)

  pub kept_span : IsPlacement grown
  kept_span = placed_kept old grown len word (address_in (span_at new.spans span) k) kept span_went refl
      (let few = kept.few in omega (arith, few))
      (subst (λ (xs : List SpanEntry). AreUnused (record { spans = xs; groups = new.groups }) (old.next_page + count)) (sym put.spans)
      (subst (λ (n : ℕ). AreUnused mid (old.next_page + n)) (sym count_is) (added_unused old.index mid class old.next_page span sound added kept.unused)))
      (subst FirstsAscend (sym put.spans) mid_ascend)
      (λ n. put.closed n ∙ added_flags old.index mid class old.next_page span n added ∙ kept.calm n)

  pub made_span : IsMade old grown len word span k
  made_span = record {
    placed = span_went;
    serial = refl;
    vacant = no_record old.index span k (let n = added.number in omega (arith, n));
    recorded = now_recorded mid new class span k old.next_serial len vacant_slot put;
    others = λ other j apart. put_others mid new class span k old.next_serial len vacant_slot put mid_ascend other j apart
        ∙ added_records old.index mid class old.next_page span sound added other j;
    addresses = λ other j below. ap (λ (xs : List SpanEntry). address_in (span_at xs other) j) put.spans
        ∙ ap (λ (s : SpanEntry). address_in s j) (old_there old.index mid class old.next_page span sound added other below);
  }
