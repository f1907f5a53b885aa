-- A new object is apart from each object that there is.
use Rattle.std.proofs.Common.{◌≡◌, ℕ, ◌+◌, ◌<◌, ◌≤◌, false, length, find, slice_get, arith, inl, inr, Some, None, Ok}
use Rattle.std.proofs.lemmas.Bool.Decides.{nat_tests}
use Rattle.std.proofs.lemmas.Option.{slice_get_within}
use Rattle.model_heap.proofs.Apart.{places_apart, place_used, filled_place, picked_free}
use Rattle.model_heap.proofs.GroupLists.{find_again, find_passes, find_sound}
use Rattle.model_heap.proofs.NewObjects.{first_in, open_gives, by_place}
use Rattle.model_memory.specs.Memory.{Memory, Object, has_address}
use Rattle.model_memory.specs.Plain.{IsVacantRange}
use Rattle.model_heap.specs.Sound.{IsSound, IsTied}
use Rattle.model_heap.specs.Table.{Slot, Group, Table, Placed, group_of, has_number, is_open, picked_slot, first_member, slot_address, fresh_group, place_new}
use Rattle.model_heap.specs.TableLaws.{AreApart}

-- an object put into an open group is apart from that of another slot
open_apart : (t : Table) (class word len number k : ℕ) (g h : Group) (slot : Slot) → IsSound t → len ≤ class → find (is_open t class) t.groups ≡ Some g
    → group_of t number ≡ Some h → slice_get h.slots k ≡ Some (Some slot)
    → AreApart (slot_address (first_member g) g.class (picked_slot g word)) len (slot_address slot.member h.class k) slot.len
open_apart t class word len number k g h slot sound fits found is filled = grind (
  arith,
  nat_tests,
  open_gives,
  find_passes,
  find_again,
  find_sound (has_number g.number) t.groups g,
  picked_free,
  slice_get_within,
  first_in,
  filled_place,
  find_sound (has_number number) t.groups h is sound.groups,
  places_apart t g.number number (picked_slot g word) k (first_member g) slot.member g h sound,
  clash,
)
  where
    clash : group_of t g.number ≡ Some g → g.number ≡ number → picked_slot g word ≡ k → slice_get g.slots (picked_slot g word) ≡ Some None → ⊥
    clash there e e' free = grind arith

-- an object in a new span is apart from those that there were
spanned_apart : (t : Table) (class j len number k : ℕ) (h : Group) (slot : Slot) → IsSound t → group_of t number ≡ Some h
    → slice_get h.slots k ≡ Some (Some slot) → AreApart (slot_address t.next_page class j) len (slot_address slot.member h.class k) slot.len
spanned_apart t class j len number k h slot sound is filled =
    grind (arith, place_used, filled_place t number k h slot sound is filled, find_sound (has_number number) t.groups h is sound.groups)

-- the range of a new object is apart from that of each object of the table
pub new_apart : (t : Table) (len word serial : ℕ) (placed : Placed) (number k : ℕ) (group : Group) (slot : Slot) → IsSound t
    → place_new t len word serial ≡ Ok placed → group_of t number ≡ Some group → slice_get group.slots k ≡ Some (Some slot)
    → AreApart placed.address len (slot_address slot.member group.class k) slot.len
new_apart t len word serial placed number k h slot sound went is filled =
    by_place (λ (x : Placed). AreApart x.address len (slot_address slot.member h.class k) slot.len) t len word serial placed sound
    (λ class g at. open_apart t class word len number k g h slot sound at.fits at.found is filled)
    (λ class at. spanned_apart t class (picked_slot (fresh_group t.next_span class t.next_page) word) len number k h slot sound is filled) went

-- an address of a range is not one of a range apart
pub not_had : (object : Object) (a m b n x : ℕ) → AreApart a m b n → object.address ≡ b → length object.bytes ≡ n → a ≤ x → x < a + m
    → has_address object x ≡ false
not_had object a m b n x apart is long low high = grind arith
  where
    clash : AreApart a m b n → object.address ≤ x → x < object.address + length object.bytes → ⊥
    clash (inl before) from within = omega (arith, before, from, within, is, low, high)
    clash (inr after) from within = omega (arith, after, from, within, is, long, low, high)

-- where table and memory are tied, the range of a new object is vacant
pub new_vacant : (m : Memory) (t : Table) (len word serial : ℕ) (placed : Placed) → IsSound t → IsTied m t → place_new t len word serial ≡ Ok placed
    → IsVacantRange m placed.address len
new_vacant m t len word serial placed sound tied went other x object live low high =
    let there = tied.objects other object live in
    let apart = new_apart t len word serial placed there.number there.k there.group there.slot sound went there.there there.filled in
    not_had object placed.address len (slot_address there.slot.member there.group.class there.k) there.slot.len x apart there.address there.len low high
