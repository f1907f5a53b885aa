-- A new object keeps table and memory tied: it comes to the slots that were filled.
use Rattle.std.proofs.Common.{◌≡◌, ◌≢◌, ℕ, zero, suc, ◌*◌, ◌<◌, ◌≤◌, Bool, List, [], ◌∷◌, ◌++◌, length, find, count_by, slice_get, slice_set, replicate, IsSome, is_some, ap, subst, refl, sym, ◌∙◌, arith, ◌⊎◌, inl, inr, Option, Some, None, Ok, length-append}
use Rattle.std.proofs.lemmas.Bool.Decides.{nat_tests, eqb_tells, leb_tells}
use Rattle.std.proofs.lemmas.List.{get_or_append_left, get_or_push, get_or_past, length-replicate}
use Rattle.model_heap.proofs.Apart.{class_full, picked_free}
use Rattle.model_words.proofs.Tests.{tells}
use Rattle.model_heap.proofs.GroupLists.{find_mapped, find_changed_other, find_more, changed_number}
use Rattle.model_heap.proofs.NewObjects.{fresh_none, last_found, none_from, by_place}
use Rattle.model_heap.proofs.TableChanges.{class_paged}
use Rattle.model_memory.proofs.Objects.{live_below}
use Rattle.model_heap.proofs.TiedTables.{AreKept, filled_has, live_slot}
use Rattle.model_words.specs.Classes.{row_of, slots_of}
use Rattle.model_memory.specs.Memory.{Memory, Object, next_serial, object_of}
use Rattle.model_memory.specs.Plain.{made}
use Rattle.model_heap.specs.Sound.{HasSlot, IsFilled, IsLiveSlot, IsSound, IsTied}
use Rattle.model_heap.specs.Table.{Group, Placed, Slot, Table, changed_at, first_member, fresh_group, group_of, has_number, object_count, picked_slot, place_new, placed_in, slot_address, with_group, with_object_in, with_span}

-- the second table has one filled slot more
record HasOneMore (t u : Table) (class k : ℕ) (slot : Slot) : Type 0 where
  kept : AreKept t u
  new : IsFilled u class k slot
  old : (c j : ℕ) (x : Slot) → IsFilled u c j x → ((class ≡ c) × (k ≡ j) × (slot ≡ x)) ⊎ IsFilled t c j x

-- what is filled in a table is filled in the next one but one
kept_on : (t s u : Table) → AreKept t s → AreKept s u → AreKept t u
kept_on t s u first second class k slot is = second class k slot (first class k slot is)

-- one slot more than in a table with the same filled slots
one_more : (t s u : Table) (class k : ℕ) (slot : Slot) → AreKept t s → AreKept s t → HasOneMore s u class k slot → HasOneMore t u class k slot
one_more t s u class k slot kept old more = record {
  kept = kept_on t s u kept more.kept;
  new = more.new;
  old = λ c j x is. elim (more.old c j x is) [ inl new ↦ inl new | inr was ↦ inr (old c j x was) ];
}

-- an object put into a free place is there
put_there : (slots : List (Option Slot)) (k : ℕ) (slot : Slot) → slice_get slots k ≡ Some None → slice_get (slice_set slots k (Some slot)) k ≡ Some (Some slot)
put_there [] k slot free = absurd (cc)
put_there (x ∷ slots) zero slot free = refl
put_there (x ∷ slots) (suc k) slot free = put_there slots k slot free

-- what was there stays once an object is put into a free place
put_keeps : (slots : List (Option Slot)) (k j : ℕ) (slot x : Slot) → slice_get slots k ≡ Some None → slice_get slots j ≡ Some (Some x)
    → slice_get (slice_set slots k (Some slot)) j ≡ Some (Some x)
put_keeps [] k j slot x free is = is
put_keeps (y ∷ slots) zero zero slot x free is = let clash : Some None ≡ Some (Some x) = sym free ∙ is in absurd (cc clash)
put_keeps (y ∷ slots) zero (suc j) slot x free is = is
put_keeps (y ∷ slots) (suc k) zero slot x free is = is
put_keeps (y ∷ slots) (suc k) (suc j) slot x free is = put_keeps slots k j slot x free is

-- an object once one was put is that one, in its place, or was there
put_where : (slots : List (Option Slot)) (k j : ℕ) (slot x : Slot) → slice_get (slice_set slots k (Some slot)) j ≡ Some (Some x)
    → ((k ≡ j) × (slot ≡ x)) ⊎ (slice_get slots j ≡ Some (Some x))
put_where [] k j slot x h = inr h
put_where (y ∷ slots) zero zero slot x h = let is : Some (Some slot) ≡ Some (Some x) = h in inl (refl, cc is)
put_where (y ∷ slots) zero (suc j) slot x h = inr h
put_where (y ∷ slots) (suc k) zero slot x h = inr h
put_where (y ∷ slots) (suc k) (suc j) slot x h = elim (put_where slots k j slot x h) [ inl new ↦ inl (ap suc new.0, new.1) | inr old ↦ inr old ]

-- an object put into a free place of a group is one filled slot more
put_more : (t : Table) (g : Group) (k : ℕ) (slot : Slot) → group_of t g.number ≡ Some g → slice_get g.slots k ≡ Some None
    → HasOneMore t (with_group t g.number (with_object_in k slot)) g.class k slot
put_more t g k slot is free = record { kept = kept; new = new; old = old }
  where
    u : Table
    u = with_group t g.number (with_object_in k slot)

    joined : changed_at g.number (with_object_in k slot) g ≡ with_object_in k slot g
    joined = elim (eqb_tells g.number g.number) [ inl same ↦ rw same.0 refl | inr other ↦ absurd (other.1 refl) ]

    there : group_of u g.number ≡ Some (with_object_in k slot g)
    there = find_mapped g.number (changed_at g.number (with_object_in k slot)) t.groups g (changed_number g.number (with_object_in k slot) (λ x. refl)) is
        ∙ ap Some joined

    others : (n : ℕ) → n ≢ g.number → group_of u n ≡ group_of t n
    others n off = find_changed_other g.number n (with_object_in k slot) t.groups (λ x. refl) off

    new : IsFilled u g.class k slot
    new = record { number = g.number; group = with_object_in k slot g; there = there; class_is = refl; filled = put_there g.slots k slot free }

    kept : AreKept t u
    kept c j x was = grind (arith, there, others, put_keeps g.slots k j slot x)

    old : (c j : ℕ) (x : Slot) → IsFilled u c j x → ((g.class ≡ c) × (k ≡ j) × (slot ≡ x)) ⊎ IsFilled t c j x
    old c j x now = grind (arith, is, there, others, put_where g.slots k j slot x)

-- a group found once one was added is found without it, or is that one
found_added : (test : Group → Bool) (gs : List Group) (g h : Group) → find test (gs ++ g ∷ []) ≡ Some h → (find test gs ≡ Some h) ⊎ (g ≡ h)
found_added test [] g h found = elim (tells (test g)) [
  | inl pass ↦ let is : Some g ≡ Some h = rw pass at found in inr (cc is)
  | inr fail ↦ let clash : None ≡ Some h = rw fail at found in absurd (cc clash)
]
found_added test (x ∷ xs) g h found = elim (tells (test x)) [
  | inl pass ↦ let is : Some x ≡ Some h = rw pass at found in inl (rw pass is)
  | inr fail ↦ let later : find test (xs ++ g ∷ []) ≡ Some h = rw fail at found in rw fail (found_added test xs g h later)
]

-- a new span keeps what is filled
span_kept : (t : Table) (class : ℕ) → AreKept t (with_span t class)
span_kept t class c k slot is = grind (arith, find_more (has_number is.number) t.groups)

-- nothing is filled in a new span
span_old : (t : Table) (class : ℕ) → AreKept (with_span t class) t
span_old t class c k slot is = elim (found_added (has_number is.number) t.groups (fresh_group t.next_span class t.next_page) is.group is.there) [
  | inl was ↦ record { number = is.number; group = is.group; there = was; class_is = is.class_is; filled = is.filled }
  | inr fresh ↦ absurd (fresh_none (slots_of class) k slot (ap (λ (g : Group). slice_get g.slots k) fresh ∙ is.filled))
]

-- a class of the table has a slot
some_slot : (class : ℕ) → IsSome (row_of class) → 1 ≤ slots_of class
some_slot class row = let full = class_full class row in let paged = class_paged class row in elim (leb_tells 1 (slots_of class)) [
  | inl some ↦ some.1
  | inr none ↦ let empty : slots_of class ≡ 0 = omega (arith, none.1) in
      let no_bytes : slots_of class * class ≡ 0 * class = ap (λ (n : ℕ). n * class) empty in absurd (omega (arith, full, paged, no_bytes))
]

-- no free place is counted
free_uncounted : (n : ℕ) → count_by {X = Option Slot} is_some (replicate n None) ≡ 0
free_uncounted zero = refl
free_uncounted (suc n) = free_uncounted n

-- a fresh group of a class of the table has a free slot
pub fresh_open : (number class page : ℕ) → IsSome (row_of class)
    → object_count (fresh_group number class page) < length (fresh_group number class page).slots
fresh_open number class page row =
    grind (arith, nat_tests, some_slot class row, length-replicate {A = Option Slot} (slots_of class) None, free_uncounted (slots_of class))

-- a new object of a class is one filled slot more
record IsPlaced (t : Table) (placed : Placed) (serial len : ℕ) : Type 0 where
  class : ℕ
  k : ℕ
  slot : Slot
  more : HasOneMore t placed.table class k slot
  address_is : placed.address ≡ slot_address slot.member class k
  serial_is : slot.serial ≡ serial
  long : slot.len ≡ len

-- an object put into the place that the word picks in a group with a free one
placed_more : (t : Table) (g : Group) (word serial len : ℕ) → group_of t g.number ≡ Some g → object_count g < length g.slots
    → IsPlaced t (placed_in t g word serial len) serial len
placed_more t g word serial len is some = record {
  class = g.class;
  k = picked_slot g word;
  slot = record { member = first_member g; serial = serial; len = len };
  more = put_more t g (picked_slot g word) (record { member = first_member g; serial = serial; len = len }) is (picked_free g word some);
  address_is = refl;
  serial_is = refl;
  long = refl;
}

-- the group of a new span is found
pub spanned_found : (t : Table) (class : ℕ) → IsSound t → group_of (with_span t class) t.next_span ≡ Some (fresh_group t.next_span class t.next_page)
spanned_found t class sound = last_found t.next_span t.groups (fresh_group t.next_span class t.next_page)
    (none_from 0 t.next_span t.next_span t.groups sound.numbers (omega arith)) refl

-- an object put into a new span
spanned_more : (t : Table) (class word serial len : ℕ) → IsSound t → IsSome (row_of class)
    → IsPlaced t (placed_in (with_span t class) (fresh_group t.next_span class t.next_page) word serial len) serial len
spanned_more t class word serial len sound row =
    let fresh : Group = fresh_group t.next_span class t.next_page in
    let placed = placed_more (with_span t class) fresh word serial len (spanned_found t class sound) (fresh_open t.next_span class t.next_page row) in record {
      class = placed.class;
      k = placed.k;
      slot = placed.slot;
      more = one_more t (with_span t class) (placed_in (with_span t class) fresh word serial len).table placed.class placed.k placed.slot
          (span_kept t class) (span_old t class) placed.more;
      address_is = placed.address_is;
      serial_is = placed.serial_is;
      long = placed.long;
    }

-- a new object is one filled slot more
new_more : (t : Table) (len word serial : ℕ) (placed : Placed) → IsSound t → place_new t len word serial ≡ Ok placed → IsPlaced t placed serial len
new_more t len word serial placed sound = by_place (λ (x : Placed). IsPlaced t x serial len) t len word serial placed sound
    (λ class g at. placed_more t g word serial len at.there at.is_open.some_slot)
    (λ class at. spanned_more t class word serial len sound at.row)

-- a new object keeps table and memory tied
pub new_tied : (m : Memory) (t : Table) (cell len word : ℕ) (placed : Placed) → IsSound t → IsTied m t → place_new t len word (next_serial m) ≡ Ok placed
    → IsTied (made m cell len placed.address) placed.table
new_tied m t cell len word placed sound tied h = record { slots = slots; objects = objects }
  where
    is : IsPlaced t placed (next_serial m) len
    is = new_more t len word (next_serial m) placed sound h

    object : Object
    object = record { address = placed.address; bytes = replicate len 0 }

    n : Memory
    n = made m cell len placed.address

    -- the new object is that of the next serial
    there : object_of n (next_serial m) ≡ Some object
    there = get_or_push m.objects (Some object) None (next_serial m) refl

    -- the objects of the serials before are as they were
    before : (serial : ℕ) → serial < next_serial m → object_of n serial ≡ object_of m serial
    before serial below = get_or_append_left m.objects (Some object ∷ []) None serial below

    -- the slot put holds the new object
    new_live : IsLiveSlot n is.class is.k is.slot
    new_live = record {
      object = object;
      live = ap (λ (s : ℕ). object_of n s) is.serial_is ∙ there;
      address = is.address_is;
      len = length-replicate len 0 ∙ sym is.long;
    }

    slots : (number k : ℕ) (group : Group) (slot : Slot) → group_of placed.table number ≡ Some group → slice_get group.slots k ≡ Some (Some slot)
        → IsLiveSlot n group.class k slot
    slots number k group slot at filled =
        elim (is.more.old group.class k slot (record { number = number; group = group; there = at; class_is = refl; filled = filled })) [
          | inl new ↦ subst (λ (c : ℕ). IsLiveSlot n c k slot) new.0
              (subst (λ (j : ℕ). IsLiveSlot n is.class j slot) new.1 (subst (λ (x : Slot). IsLiveSlot n is.class is.k x) new.2 new_live))
          | inr was ↦ let live = live_slot m t group.class k slot tied was in record {
            object = live.object;
            live = before slot.serial (live_below m slot.serial live.object live.live) ∙ live.live;
            address = live.address;
            len = live.len;
          }
        ]

    objects : (serial : ℕ) (o : Object) → object_of n serial ≡ Some o → HasSlot placed.table serial o
    objects serial o live = elim (leb_tells (suc serial) (next_serial m)) [
      | inl below ↦ let has = tied.objects serial o (sym (before serial below.1) ∙ live) in
          filled_has placed.table has.group.class has.k serial has.slot o (is.more.kept has.group.class has.k has.slot
          (record { number = has.number; group = has.group; there = has.there; class_is = refl; filled = has.filled })) has.serial_is has.address has.len
      | inr past ↦ elim (eqb_tells serial (next_serial m)) [
        | inl same ↦ let both : Some object ≡ Some o = sym there ∙ ap (λ (s : ℕ). object_of n s) (sym same.1) ∙ live in
            let here : object ≡ o = cc both in
            subst (λ (x : Object). HasSlot placed.table serial x) here
            (filled_has placed.table is.class is.k serial is.slot object is.more.new (is.serial_is ∙ sym same.1) is.address_is (length-replicate len 0 ∙ sym is.long))
        | inr other ↦ let none : object_of n serial ≡ None = get_or_past (m.objects ++ Some object ∷ []) serial None
            (let apart = other.1 in let more = length-append m.objects (Some object ∷ []) in omega (arith, past.1, apart, more)) in
            let clash : Some o ≡ None = sym live ∙ none in absurd (cc clash)
      ]
    ]
