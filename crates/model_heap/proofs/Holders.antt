-- No two live objects have an address in common, so an address has one holder at most.
use Rattle.std.proofs.Common.{◌≡◌, ◌≢◌, ℕ, zero, suc, ◌+◌, true, false, List, [], ◌∷◌, length, get_or, ap, refl, ◌∙◌, arith, inl, inr, Option, Some, None}
use Rattle.model_heap.proofs.Apart.{places_apart, filled_place}
use Rattle.model_heap.proofs.GroupLists.{find_sound}
use Rattle.model_heap.proofs.NewApart.{not_had}
use Rattle.model_memory.proofs.NamedObjects.{in_range}
use Rattle.model_memory.specs.Memory.{Memory, Object, are_apart, has_address, holder_from, holder_of, object_of}
use Rattle.model_heap.specs.Sound.{HasSlot, IsSound, IsSoundSlot, IsTied}
use Rattle.model_heap.specs.Table.{Table, has_number, slot_address}
use Rattle.model_heap.specs.TableLaws.{AreApart}

-- objects in different slots have ranges apart
slots_apart : (t : Table) (i j : ℕ) (x y : Object) → IsSound t → HasSlot t i x → HasSlot t j y → i ≢ j
    → AreApart x.address (length x.bytes) y.address (length y.bytes)
slots_apart t i j x y sound at_x at_y apart = elim ranges [
  | inl low ↦ inl (let fits = kept_x.fits in omega (arith, low, fits, at_x.address, at_x.len, at_y.address))
  | inr high ↦ inr (let fits = kept_y.fits in omega (arith, high, fits, at_y.address, at_y.len, at_x.address))
]
  where
    kept_x : IsSoundSlot at_x.group at_x.slot
    kept_x = (find_sound (has_number at_x.number) t.groups at_x.group at_x.there sound.groups).objects at_x.k at_x.slot at_x.filled

    kept_y : IsSoundSlot at_y.group at_y.slot
    kept_y = (find_sound (has_number at_y.number) t.groups at_y.group at_y.there sound.groups).objects at_y.k at_y.slot at_y.filled

    clash : at_x.number ≡ at_y.number → at_x.k ≢ at_y.k
    clash number k = grind arith

    ranges : AreApart (slot_address at_x.slot.member at_x.group.class at_x.k) at_x.group.class
        (slot_address at_y.slot.member at_y.group.class at_y.k) at_y.group.class
    ranges = places_apart t at_x.number at_y.number at_x.k at_y.k at_x.slot.member at_y.slot.member at_x.group at_y.group sound
        (filled_place t at_x.number at_x.k at_x.group at_x.slot sound at_x.there at_x.filled)
        (filled_place t at_y.number at_y.k at_y.group at_y.slot sound at_y.there at_y.filled) clash

-- no two live objects have an address in common
pub objects_apart : (m : Memory) (t : Table) (i j : ℕ) (x y : Object) → IsSound t → IsTied m t → object_of m i ≡ Some x → object_of m j ≡ Some y
    → i ≢ j → are_apart x y
objects_apart m t i j x y sound tied live live' apart address had =
    let within = in_range x address had in
    not_had y x.address (length x.bytes) y.address (length y.bytes) address
    (slots_apart t i j x y sound (tied.objects i x live) (tied.objects j y live') apart) refl refl within.0 within.1

-- an address that no object of a list has is held by none
none_from : (objects : List (Option Object)) (from address : ℕ)
    → ((k : ℕ) (x : Object) → get_or objects k None ≡ Some x → has_address x address ≡ false) → holder_from from objects address ≡ None
none_from [] from address h = refl
none_from (None ∷ objects) from address h = none_from objects (from + 1) address (λ k x at. h (suc k) x at)
none_from (Some y ∷ objects) from address h = let off : has_address y address ≡ false = h 0 y refl in
    rw off (none_from objects (from + 1) address (λ k x at. h (suc k) x at))

-- the object of a list that has an address, where no other one has it, holds it
one_from : (objects : List (Option Object)) (from address k : ℕ) (x : Object) → get_or objects k None ≡ Some x → has_address x address ≡ true
    → ((j : ℕ) (y : Object) → get_or objects j None ≡ Some y → j ≢ k → has_address y address ≡ false) → holder_from from objects address ≡ Some (from + k)
one_from [] from address k x at has others = absurd (cc)
one_from (None ∷ objects) from address zero x at has others = absurd (cc)
one_from (None ∷ objects) from address (suc k) x at has others = let on : from + 1 + k ≡ from + suc k = omega arith in
    one_from objects (from + 1) address k x at has (λ j y is apart. others (suc j) y is (λ e. apart (omega (arith, e)))) ∙ ap Some on
one_from (Some z ∷ objects) from address zero x at has others = grind arith
one_from (Some z ∷ objects) from address (suc k) x at has others =
    let off : has_address z address ≡ false = others 0 z refl (λ e. omega (arith, e)) in let on : from + 1 + k ≡ from + suc k = omega arith in
    rw off (one_from objects (from + 1) address k x at has (λ j y is apart. others (suc j) y is (λ e. apart (omega (arith, e)))) ∙ ap Some on)

-- the live object that has an address is the one that holds it
pub one_holder : (m : Memory) (t : Table) (serial address : ℕ) (object : Object) → IsSound t → IsTied m t → object_of m serial ≡ Some object
    → has_address object address ≡ true → holder_of m address ≡ Some serial
one_holder m t serial address object sound tied live has = grind (arith, one_from m.objects 0 address serial object live has, objects_apart m t serial)

-- an address that no live object has is held by none
pub no_holder : (m : Memory) (address : ℕ)
    → ((serial : ℕ) (object : Object) → object_of m serial ≡ Some object → has_address object address ≡ false) → holder_of m address ≡ None
no_holder m address h = none_from m.objects 0 address h
