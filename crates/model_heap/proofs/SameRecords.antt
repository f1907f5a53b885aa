-- Two sound tables that are tied to one memory have the same records.
use Rattle.std.proofs.Common.{arith, ◌≡◌, ◌≢◌, ℕ, zero, suc, ◌+◌, Bool, List, [], ◌∷◌, ◌++◌, find, flat_map, length, slice_get, ap, refl, sym, ◌∙◌, Option, Some, None}
use Rattle.model_heap.proofs.Records.{record_slot}
use Rattle.model_memory.specs.Memory.{Memory, Object, object_of}
use Rattle.model_heap.specs.Places.{Record, has_serial, records_from, records_of, record_with, records_in}
use Rattle.model_heap.specs.Sound.{HasSlot, IsSound, IsTied}
use Rattle.model_heap.specs.Table.{Group, Slot, Table, has_number}

none_left : (test : Record → Bool) (xs ys : List Record) → find test (xs ++ ys) ≡ None → find test xs ≡ None
none_left test [] ys none = refl
none_left test (x ∷ xs) ys none = grind (arith, none_left test xs ys)

none_right : (test : Record → Bool) (xs ys : List Record) → find test (xs ++ ys) ≡ None → find test ys ≡ None
none_right test [] ys none = none
none_right test (x ∷ xs) ys none = grind (arith, none_right test xs ys)

none_of_group : (test : Record → Bool) (n : ℕ) (gs : List Group) (g : Group) → find (has_number n) gs ≡ Some g → find test (flat_map records_in gs) ≡ None
    → find test (records_in g) ≡ None
none_of_group test n [] g h none = absurd (cc h)
none_of_group test n (x ∷ xs) g h none = grind (arith, none_left, none_of_group test n xs g, none_right)

none_of_slots : (serial class from : ℕ) (slots : List (Option Slot)) (k : ℕ) (slot : Slot) → find (has_serial serial) (records_from class from slots) ≡ None
    → slice_get slots k ≡ Some (Some slot) → slot.serial ≢ serial
none_of_slots serial class from [] k slot none filled = absurd (cc filled)
none_of_slots serial class from (None ∷ slots) zero slot none filled = absurd (let two : ◌≡◌ {A = Option Slot} None (Some slot) = cc filled in cc two)
none_of_slots serial class from (None ∷ slots) (suc k) slot none filled = none_of_slots serial class (from + 1) slots k slot none filled
none_of_slots serial class from (Some x ∷ slots) zero slot none filled = grind arith
none_of_slots serial class from (Some x ∷ slots) (suc j) slot none filled = grind (arith, none_of_slots serial class (from + 1) slots j slot)

-- the record of a serial whose object is live has its address and its length
found_is : (m : Memory) (t : Table) (serial : ℕ) (r : Record) → IsSound t → IsTied m t → record_with serial (records_of t) ≡ Some r
    → (object : Object) × (object_of m serial ≡ Some object) × (r.serial ≡ serial) × (object.address ≡ r.address) × (length object.bytes ≡ r.len)
found_is m t serial r sound tied found =
    let of = record_slot t serial r sound found in
    let live = tied.slots of.1.filled.number of.1.k of.1.filled.group of.1.slot of.1.filled.there of.1.filled.filled in
    let is : of.1.slot.serial ≡ serial = ap (λ (x : Record). x.serial) (sym of.1.is) ∙ of.0 in (
      live.object,
      ap (object_of m) (sym is) ∙ live.live,
      of.0,
      live.address ∙ ap (λ (x : Record). x.address) (sym of.1.is),
      live.len ∙ ap (λ (x : Record). x.len) (sym of.1.is),
    )

-- what one table has a record of, the other has the same record of
module _ (m : Memory) (t u : Table) (sound : IsSound t) (sound' : IsSound u) (tied : IsTied m t) (tied' : IsTied m u) where
  found_too : (serial : ℕ) (r : Record) → record_with serial (records_of t) ≡ Some r → record_with serial (records_of u) ≡ Some r
  found_too serial r found =
      let is = found_is m t serial r sound tied found in
      let has = tied'.objects serial is.0 is.1 in
      go is has (record_with serial (records_of u)) refl
    where
      go : (is : (object : Object) × (object_of m serial ≡ Some object) × (r.serial ≡ serial) × (object.address ≡ r.address) × (length object.bytes ≡ r.len))
          → HasSlot u serial is.0 → (o : Option Record) → record_with serial (records_of u) ≡ o → record_with serial (records_of u) ≡ Some r
      go is has None none = absurd (none_of_slots serial has.group.class 0 has.group.slots has.k has.slot
          (none_of_group (has_serial serial) has.number u.groups has.group has.there none) has.filled has.serial_is)
      go is has (Some q) there = grind (arith, found_is m u serial q sound' tied' there)

pub same_records : (m : Memory) (t u : Table) → IsSound t → IsSound u → IsTied m t → IsTied m u → (serial : ℕ)
    → record_with serial (records_of u) ≡ record_with serial (records_of t)
same_records m t u sound sound' tied tied' serial = go (record_with serial (records_of t)) (record_with serial (records_of u)) refl refl
  where
    go : (a b : Option Record) → record_with serial (records_of t) ≡ a → record_with serial (records_of u) ≡ b
        → record_with serial (records_of u) ≡ record_with serial (records_of t)
    go (Some r) b at at' = found_too m t u sound sound' tied tied' serial r at ∙ sym at
    go None None at at' = at' ∙ sym at
    go None (Some q) at at' = at' ∙ sym (found_too m u t sound' sound tied' tied serial q at')
