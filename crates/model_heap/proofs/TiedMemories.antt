-- A command keeps table and memory tied: stores, aliases, frees and new objects.
use Rattle.std.proofs.Common.{arith, ◌≡◌, ◌≢◌, ℕ, zero, suc, ◌+◌, ◌≤◌, List, [], ◌∷◌, length, map, find, slice_get, ap, refl, sym, ◌∙◌, inl, inr, Option, Some, None}
use Rattle.std.proofs.lemmas.Bool.Decides.{nat_tests, eqb_tells}
use Rattle.model_heap.proofs.GroupLists.{find_mapped}
use Rattle.model_heap.proofs.TableChanges.{emptied_kept}
use Rattle.model_memory.specs.Memory.{Memory, Object, object_of, overwritten, with_object, with_root}
use Rattle.model_memory.specs.Plain.{Named, stored}
use Rattle.model_heap.specs.Sound.{HasSlot, IsLiveSlot, IsTied}
use Rattle.model_heap.specs.Table.{Group, Slot, Table, emptied_of, group_of, group_without, has_number, without_object}
use Rattle.model_memory.proofs.Objects.{put_there, put_elsewhere, overwritten_length}

-- the object of the serial is live, at the address and of the length
record IsLiveAt (m : Memory) (serial address len : ℕ) : Type 0 where
  object : Object
  live : object_of m serial ≡ Some object
  address_is : object.address ≡ address
  long : length object.bytes ≡ len

-- the objects of the first memory are live in the second, at their addresses and of their lengths
abbrev AreHeld : Memory → Memory → Type 0
AreHeld m n = (serial : ℕ) (object : Object) → object_of m serial ≡ Some object → IsLiveAt n serial object.address (length object.bytes)

-- memories whose objects have the same addresses and lengths are tied to the same table
tied_held : (m n : Memory) (t : Table) → AreHeld m n → AreHeld n m → IsTied m t → IsTied n t
tied_held m n t held old tied = record {
  slots = λ number k group slot there filled.
      let live = tied.slots number k group slot there filled in let new = held slot.serial live.object live.live in
      record { object = new.object; live = new.live; address = new.address_is ∙ live.address; len = new.long ∙ live.len };
  objects = λ serial object live. let was = old serial object live in let has = tied.objects serial was.object was.live in grind arith;
}

-- another serial in a cell keeps table and memory tied
pub root_tied : (m : Memory) (t : Table) (cell serial : ℕ) → IsTied m t → IsTied (with_root m cell serial) t
root_tied m t cell serial tied = tied_held m (with_root m cell serial) t
    (λ s o live. record { object = o; live = live; address_is = refl; long = refl })
    (λ s o live. record { object = o; live = live; address_is = refl; long = refl }) tied

-- bytes stored within a live object keep table and memory tied
pub stored_tied : (m : Memory) (t : Table) (named : Named) (off : ℕ) (bytes : List ℕ) → object_of m named.serial ≡ Some named.object
    → off + length bytes ≤ length named.object.bytes → IsTied m t → IsTied (stored m named off bytes) t
stored_tied m t named off bytes is fits tied = tied_held m (stored m named off bytes) t held old tied
  where
    new : Object
    new = record named.object { bytes = overwritten named.object.bytes off bytes }

    there : object_of (stored m named off bytes) named.serial ≡ Some new
    there = put_there m named.serial named.object (Some new) is

    long : length new.bytes ≡ length named.object.bytes
    long = overwritten_length named.object.bytes off bytes fits

    held : AreHeld m (stored m named off bytes)
    held serial object live = grind (arith, nat_tests, new, there, long, put_elsewhere m named.serial serial (Some new))

    old : AreHeld (stored m named off bytes) m
    old serial object live = grind (arith, nat_tests, new, there, long, put_elsewhere m named.serial serial (Some new))

-- a slot emptied of another object stays
emptied_other : (serial : ℕ) (slots : List (Option Slot)) (k : ℕ) (slot : Slot) → slot.serial ≢ serial → slice_get slots k ≡ Some (Some slot)
    → slice_get (map (emptied_of serial) slots) k ≡ Some (Some slot)
emptied_other serial [] k slot apart h = h
emptied_other serial (x ∷ slots) zero slot apart h = grind (arith, nat_tests)
emptied_other serial (x ∷ slots) (suc k) slot apart h = emptied_other serial slots k slot apart h

-- no slot holds the object that it was emptied of
emptied_gone : (serial : ℕ) (slots : List (Option Slot)) (k : ℕ) (slot : Slot) → slice_get (map (emptied_of serial) slots) k ≡ Some (Some slot)
    → slot.serial ≢ serial
emptied_gone serial [] k slot h e = cc
emptied_gone serial (x ∷ slots) zero slot h e = grind (arith, nat_tests)
emptied_gone serial (x ∷ slots) (suc k) slot h e = emptied_gone serial slots k slot h e

-- a group of changed ones was one before the change
record WasBefore (change : Group → Group) (before : Option Group) (after : Group) : Type 0 where
  group : Group
  is : before ≡ Some group
  becomes : change group ≡ after

-- where each group keeps its number, the group found among the changed ones was found before the change
find_before : (n : ℕ) (change : Group → Group) (gs : List Group) (h : Group) → ((g : Group) → (change g).number ≡ g.number)
    → find (has_number n) (map change gs) ≡ Some h → WasBefore change (find (has_number n) gs) h
find_before n change [] h keeps found = absurd (cc)
find_before n change (x ∷ xs) h keeps found = grind (arith, nat_tests, find_before n change xs h keeps)

-- an object freed keeps table and memory tied
pub free_tied : (m : Memory) (t : Table) (serial : ℕ) (was : Object) → object_of m serial ≡ Some was → IsTied m t
    → IsTied (with_object m serial None) (without_object t serial)
free_tied m t serial was is tied = record { slots = slots; objects = objects }
  where
    slots : (number k : ℕ) (group : Group) (slot : Slot) → group_of (without_object t serial) number ≡ Some group
        → slice_get group.slots k ≡ Some (Some slot) → IsLiveSlot (with_object m serial None) group.class k slot
    slots number k group slot there filled =
        let before = find_before number (group_without serial) t.groups group (λ g. refl) there in
        let emptied : slice_get (map (emptied_of serial) before.group.slots) k ≡ Some (Some slot) = grind arith in
        let live = tied.slots number k before.group slot before.is (emptied_kept serial before.group.slots k slot emptied) in record {
          object = live.object;
          live = put_elsewhere m serial slot.serial None (emptied_gone serial before.group.slots k slot emptied) ∙ live.live;
          address = grind arith;
          len = live.len;
        }

    objects : (other : ℕ) (object : Object) → object_of (with_object m serial None) other ≡ Some object → HasSlot (without_object t serial) other object
    objects other object live = elim (eqb_tells other serial) [
      | inl same ↦ let clash : None ≡ Some object
          = sym (put_there m serial was None is) ∙ ap (λ (s : ℕ). object_of (with_object m serial None) s) (sym same.1) ∙ live in absurd (cc clash)
      | inr apart ↦ let has = tied.objects other object (sym (put_elsewhere m serial other None apart.1) ∙ live) in record {
        number = has.number;
        group = group_without serial has.group;
        k = has.k;
        slot = has.slot;
        there = find_mapped has.number (group_without serial) t.groups has.group (λ g. refl) has.there;
        filled = emptied_other serial has.group.slots has.k has.slot (λ e. apart.1 (sym has.serial_is ∙ e)) has.filled;
        serial_is = has.serial_is;
        address = has.address;
        len = has.len;
      }
    ]
