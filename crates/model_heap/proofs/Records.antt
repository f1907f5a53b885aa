-- The records of a table are those of its filled slots.
use Rattle.std.proofs.Common.{◌≡◌, ℕ, suc, ◌+◌, Bool, List, [], ◌∷◌, ◌++◌, find, flat_map, slice_get, option_map, ap, refl, sym, ◌∙◌, arith, ◌⊎◌, inl, inr, Option, Some, None}
use Rattle.std.proofs.lemmas.Bool.Decides.{nat_tests}
use Rattle.std.proofs.lemmas.List.FromFn.{length-map-range_with_len}
use Rattle.model_words.proofs.Tests.{tells}
use Rattle.model_heap.proofs.GroupLists.{find_between}
use Rattle.model_heap.proofs.Meanings.{object_below, object_past}
use Rattle.model_heap.specs.MeaningLaws.{IsOfSlot}
use Rattle.model_memory.specs.Memory.{Object}
use Rattle.model_heap.specs.Places.{Place, Record, Target, has_serial, meaning, object_at, records_from, records_of, AreBelow, record_in, record_with, records_in}
use Rattle.model_heap.specs.Sound.{AscendBetween, IsLiveSlot, IsSound, IsTied}
use Rattle.model_heap.specs.Table.{Group, Slot, Table, group_of, has_number}

-- a record found in two lists is found in one
found_either : (test : Record → Bool) (xs ys : List Record) (r : Record) → find test (xs ++ ys) ≡ Some r
    → (find test xs ≡ Some r) ⊎ (find test ys ≡ Some r)
found_either test [] ys r h = inr h
found_either test (x ∷ xs) ys r h = grind (arith, nat_tests, found_either test xs ys r)

-- the record found has the serial
found_serial : (serial : ℕ) (rs : List Record) (r : Record) → find (has_serial serial) rs ≡ Some r → r.serial ≡ serial
found_serial serial [] r h = cc
found_serial serial (x ∷ xs) r h = grind (arith, nat_tests, found_serial serial xs r)

-- the record is of a filled slot of a list, counted from a number
record IsOfPlace (class from : ℕ) (slots : List (Option Slot)) (r : Record) : Type 0 where
  at : ℕ
  slot : Slot
  filled : slice_get slots at ≡ Some (Some slot)
  is : r ≡ record_in class (from + at) slot

-- a record found among those of some slots is of one of them
place_found : (test : Record → Bool) (class from : ℕ) (slots : List (Option Slot)) (r : Record) → find test (records_from class from slots) ≡ Some r
    → IsOfPlace class from slots r
place_found test class from [] r h = absurd (cc)
place_found test class from (None ∷ slots) r h = let rest = place_found test class (from + 1) slots r h in
    let on : from + 1 + rest.at ≡ from + suc rest.at = omega arith in record {
      at = suc rest.at;
      slot = rest.slot;
      filled = rest.filled;
      is = rest.is ∙ ap (λ (k : ℕ). record_in class k rest.slot) on;
    }
place_found test class from (Some x ∷ slots) r h = elim (tells (test (record_in class from x))) [
  | inl pass ↦ let is : Some (record_in class from x) ≡ Some r = rw pass at h in let here : record_in class from x ≡ r = cc is in
      let on : from ≡ from + 0 = omega arith in
      record { at = 0; slot = x; filled = refl; is = sym here ∙ ap (λ (k : ℕ). record_in class k x) on }
  | inr fail ↦ let later : find test (records_from class (from + 1) slots) ≡ Some r = rw fail at h in
      let rest = place_found test class (from + 1) slots r later in
      let on : from + 1 + rest.at ≡ from + suc rest.at = omega arith in record {
        at = suc rest.at;
        slot = rest.slot;
        filled = rest.filled;
        is = rest.is ∙ ap (λ (k : ℕ). record_in class k rest.slot) on;
      }
]

-- a group found among later ones is found among all
pub found_later : (low high : ℕ) (x : Group) (xs : List Group) (g : Group) → AscendBetween low (x ∷ xs) high → find (has_number g.number) xs ≡ Some g
    → find (has_number g.number) (x ∷ xs) ≡ Some g
found_later low high x xs g ascend h = grind (arith, find_between (has_number g.number) (x.number + 1) high xs g ascend.1 h)

-- the record is found in a group that is found
record IsOfGroup (test : Record → Bool) (gs : List Group) (r : Record) : Type 0 where
  group : Group
  there : find (has_number group.number) gs ≡ Some group
  found : find test (records_in group) ≡ Some r

-- a record found among those of ascending groups is found in one of them
group_found : (test : Record → Bool) (low high : ℕ) (gs : List Group) (r : Record) → AscendBetween low gs high → find test (flat_map records_in gs) ≡ Some r
    → IsOfGroup test gs r
group_found test low high [] r ascend h = absurd (cc)
group_found test low high (x ∷ xs) r ascend h =
    grind (arith, found_either test (records_in x) (flat_map records_in xs) r h, group_found test (x.number + 1) high xs r ascend.1, found_later low high x xs)

-- each record is that of a filled slot
pub record_slot : (t : Table) (serial : ℕ) (r : Record) → IsSound t → record_with serial (records_of t) ≡ Some r → (r.serial ≡ serial) × IsOfSlot t r
record_slot t serial r sound h =
    let group = group_found (has_serial serial) 0 t.next_span t.groups r sound.numbers h in
    let place = place_found (has_serial serial) group.group.class 0 group.group.slots r group.found in
    let on : 0 + place.at ≡ place.at = omega arith in (
      found_serial serial (records_of t) r h,
      record {
        class = group.group.class;
        k = place.at;
        slot = place.slot;
        filled = record { number = group.group.number; group = group.group; there = group.there; class_is = refl; filled = place.filled };
        is = place.is ∙ ap (λ (k : ℕ). record_in group.group.class k place.slot) on;
      },
    )

-- the option of a record has one, whose object is the given one
record HasRecord (targets : ℕ → Target) (bytes : Place → ℕ) (o : Option Record) (x : Object) : Type 0 where
  value : Record
  is : o ≡ Some value
  object_is : object_at targets bytes value ≡ x

-- an object that a record stands for has the record
has_record : (targets : ℕ → Target) (bytes : Place → ℕ) (o : Option Record) (x : Object) → option_map (object_at targets bytes) o ≡ Some x
    → HasRecord targets bytes o x
has_record targets bytes None x h = absurd (cc h)
has_record targets bytes (Some r) x h = let is : Some (object_at targets bytes r) ≡ Some x = h in record { value = r; is = refl; object_is = cc is }

-- the object of a filled slot has the slot's record
pub slot_record : (next : ℕ) (t : Table) (targets : ℕ → Target) (bytes : Place → ℕ) (roots : List (Option ℕ)) (n k : ℕ) (group : Group) (slot : Slot)
    → IsSound t → IsTied (meaning next (records_of t) targets bytes roots) t → group_of t n ≡ Some group
    → slice_get group.slots k ≡ Some (Some slot) → record_with slot.serial (records_of t) ≡ Some (record_in group.class k slot)
slot_record next t targets bytes roots n k group slot sound tied there filled = grind (
  arith,
  has_record targets bytes (record_with slot.serial (records_of t)) live.object,
  object_below next (records_of t) targets bytes roots slot.serial,
  length-map-range_with_len,
  found_serial,
  object_past next (records_of t) targets bytes roots slot.serial,
)
  where
    live : IsLiveSlot (meaning next (records_of t) targets bytes roots) group.class k slot
    live = tied.slots n k group slot there filled

-- the records of a table that is tied to what they mean have serials below the next one
pub tied_below : (next : ℕ) (t : Table) (targets : ℕ → Target) (bytes : Place → ℕ) (roots : List (Option ℕ)) → IsSound t
    → IsTied (meaning next (records_of t) targets bytes roots) t → AreBelow next (records_of t)
tied_below next t targets bytes roots sound tied serial past = none (record_with serial (records_of t)) refl
  where
    none : (o : Option Record) → record_with serial (records_of t) ≡ o → o ≡ None
    none None h = refl
    none (Some r) h =
        let of = record_slot t serial r sound h in
        let live = tied.slots of.1.filled.number of.1.k of.1.filled.group of.1.slot of.1.filled.there of.1.filled.filled in
        let is : of.1.slot.serial ≡ serial = ap (λ (x : Record). x.serial) (sym of.1.is) ∙ of.0 in
        let clash : None ≡ Some live.object
        = sym (object_past next (records_of t) targets bytes roots of.1.slot.serial (omega (arith, past, is))) ∙ live.live in absurd (cc clash)
