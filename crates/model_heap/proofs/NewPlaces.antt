-- Which group and which slot a new object goes to.
use Rattle.std.proofs.Common.{◌≡◌, ◌≢◌, ℕ, zero, suc, ◌+◌, ◌<◌, ◌≤◌, ◌%◌, Bool, true, false, cond, not, is_some, List, [], ◌∷◌, ◌++◌, length, find, replicate, slice_get, slice_index, take, ap, subst, refl, sym, ◌∙◌, arith, inl, inr, Option, Some, None, Ok, mod-lt, nat_eq, nat_lt}
use Rattle.std.proofs.lemmas.Bool.Decides.{nat_tests, eqb_tells}
use Rattle.std.proofs.lemmas.List.{length-replicate}
use Rattle.std.proofs.lemmas.List.Sums.{sum_by-cons}
use Rattle.model_heap.proofs.Apart.{free_count}
use Rattle.model_words.proofs.Chains.{or_refuse_went, refuse_if_went, went_on}
use Rattle.model_heap.proofs.GroupLists.{find_again, find_changed_other, find_mapped, find_passes, find_sound}
use Rattle.model_heap.proofs.ListPlaces.{found_passes, none_found_passes}
use Rattle.model_heap.proofs.NewObjects.{class_fits, last_found, none_from, open_gives}
use Rattle.model_heap.proofs.TiedNewObjects.{fresh_open}
use Rattle.model_words.specs.Classes.{class_for, pages_of, slots_of}
use Rattle.model_heap.specs.NewLaws.{IsPicked, TakesOpen, TakesSpan, free_slots}
use Rattle.model_heap.specs.Sound.{AscendBetween, IsSound}
use Rattle.model_heap.specs.Table.{Group, Placed, Slot, Table, changed_at, free_from, fresh_group, group_of, has_number, is_open, object_count, picked_slot, place_in, place_new, placed_in, room_for_span, slot_address, with_group, with_object_in, with_span}
use Rattle.model_words.specs.declared.refusals.Refusal.TheVariants.{NoPages, TooLarge, Zero}

-- one more slot in front
free_more : (x : Option Slot) (slots : List (Option Slot)) → free_slots (x ∷ slots) ≡ cond (not (is_some x)) 1 0 + free_slots slots
free_more x slots = sum_by-cons (λ o. cond (not (is_some o)) 1 0) x slots

-- the numbers of the free slots are as many
free_length : (from : ℕ) (slots : List (Option Slot)) → length (free_from from slots) ≡ free_slots slots
free_length from [] = refl
free_length from (None ∷ slots) = let rest = free_length (from + 1) slots in let more = free_more None slots in omega (arith, rest, more)
free_length from (Some x ∷ slots) = let rest = free_length (from + 1) slots in let more = free_more (Some x) slots in omega (arith, rest, more)

-- a free slot of a list, counted from a number, with so many free ones below
record IsFreeAfter (slots : List (Option Slot)) (from i k : ℕ) : Type 0 where
  at : ℕ
  is : k ≡ from + at
  free : slice_get slots at ≡ Some None
  below : free_slots (take at slots) ≡ i

-- the free slot of a number has so many free ones below it
free_after : (slots : List (Option Slot)) (from i : ℕ) → i < length (free_from from slots) → IsFreeAfter slots from i (slice_index (free_from from slots) i)
free_after [] from i below = absurd (omega (arith, below))
free_after (None ∷ slots) from zero below = record { at = 0; is = omega arith; free = refl; below = refl }
free_after (None ∷ slots) from (suc i) below = let rest = free_after slots (from + 1) i (omega (arith, below)) in
    let is : slice_index (free_from (from + 1) slots) i ≡ from + 1 + rest.at = rest.is in
    let more = free_more None (take rest.at slots) in let old = rest.below in
    record { at = suc rest.at; is = omega (arith, is); free = rest.free; below = omega (arith, more, old) }
free_after (Some x ∷ slots) from i below = let rest = free_after slots (from + 1) i below in
    let is : slice_index (free_from (from + 1) slots) i ≡ from + 1 + rest.at = rest.is in
    let more = free_more (Some x) (take rest.at slots) in let old = rest.below in
    record { at = suc rest.at; is = omega (arith, is); free = rest.free; below = omega (arith, more, old) }

-- the slot that the word picks in a group with a free one
record IsPickedSlot (slots : List (Option Slot)) (word k : ℕ) : Type 0 where
  free : slice_get slots k ≡ Some None
  below : free_slots (take k slots) ≡ word % free_slots slots

picked_is : (g : Group) (word : ℕ) → object_count g < length g.slots → IsPickedSlot g.slots word (picked_slot g word)
picked_is g word some = grind (arith, nat_tests, free_count 0 g.slots, free_after g.slots 0 (word % length (free_from 0 g.slots)), free_length 0 g.slots)

-- the first of some members
first_is : (members : List ℕ) → 1 ≤ length members → slice_get members 0 ≡ Some (slice_index members 0)
first_is [] some = absurd (omega (arith, some))
first_is (v ∷ members) some = refl

-- the group of the number is the changed one
changed_there : (t : Table) (g : Group) (k : ℕ) (slot : Slot) → group_of t g.number ≡ Some g
    → group_of (with_group t g.number (with_object_in k slot)) g.number ≡ Some (with_object_in k slot g)
changed_there t g k slot there = grind (arith, find_mapped g.number (changed_at g.number (with_object_in k slot)) t.groups g)
  where
    joined : changed_at g.number (with_object_in k slot) g ≡ with_object_in k slot g
    joined = elim (eqb_tells g.number g.number) [ inl same ↦ rw same.0 refl | inr other ↦ absurd (other.1 refl) ]

-- an object put into a group with a free slot is where the word picks
placed_picked : (t : Table) (g : Group) (word serial len : ℕ) → group_of t g.number ≡ Some g → 1 ≤ length g.members → object_count g < length g.slots
    → IsPicked g word serial len (placed_in t g word serial len)
placed_picked t g word serial len there some_member some =
    grind (arith, nat_tests, picked_is g word some, first_is g.members some_member, changed_there t g (picked_slot g word))

-- a group of ascending ones is from the first bound on
pub at_from : (low high : ℕ) (gs : List Group) (i : ℕ) (g : Group) → AscendBetween low gs high → slice_get gs i ≡ Some g → low ≤ g.number
at_from low high [] i g ascend at = absurd (cc)
at_from low high (x ∷ xs) zero g ascend at = grind arith
at_from low high (x ∷ xs) (suc i) g ascend at = let rest = at_from (x.number + 1) high xs i g ascend.1 at in let from = ascend.0 in omega (arith, rest, from)

-- the group found of ascending ones is the lowest that passes
found_lowest : (test : Group → Bool) (low high : ℕ) (gs : List Group) (g : Group) (i : ℕ) (other : Group) → AscendBetween low gs high → find test gs ≡ Some g
    → slice_get gs i ≡ Some other → test other ≡ true → g.number ≤ other.number
found_lowest test low high [] g i other ascend found at passes = absurd (cc)
found_lowest test low high (x ∷ xs) g zero other ascend found at passes = grind (arith, nat_tests)
found_lowest test low high (x ∷ xs) g (suc i) other ascend found at passes =
    grind (arith, nat_tests, at_from (x.number + 1) high xs i other ascend.1 at, found_lowest test (x.number + 1) high xs g i other ascend.1)

-- a new object in the group that is found
open_taken : (t : Table) (class word serial len : ℕ) (g : Group) → IsSound t → find (is_open t class) t.groups ≡ Some g
    → TakesOpen t class word serial len (placed_in t g word serial len)
open_taken t class word serial len g sound found = grind (
  arith,
  nat_tests,
  find_passes (is_open t class) t.groups g found,
  find_again (is_open t class) 0 t.next_span t.groups g sound.numbers found,
  found_lowest (is_open t class) 0 t.next_span t.groups g,
  placed_picked t g word serial len,
  find_sound (is_open t class) t.groups g found sound.groups,
  open_gives t class g,
  find_changed_other g.number,
)

-- all slots of a fresh group are free
fresh_free : (from n i : ℕ) → i < n → slice_index (free_from from (replicate n None)) i ≡ from + i
fresh_free from zero i below = absurd (omega (arith, below))
fresh_free from (suc n) zero below = omega arith
fresh_free from (suc n) (suc i) below = let rest = fresh_free (from + 1) n i (omega (arith, below)) in omega (arith, rest)

fresh_length : (from n : ℕ) → length (free_from from (replicate n None)) ≡ n
fresh_length from zero = refl
fresh_length from (suc n) = let rest = fresh_length (from + 1) n in omega (arith, rest)

-- so the word picks of all
pub fresh_picked : (number class page word : ℕ) → 1 ≤ slots_of class → picked_slot (fresh_group number class page) word ≡ word % slots_of class
fresh_picked number class page word some =
    grind (arith, fresh_length 0 (slots_of class), fresh_free 0 (slots_of class) (word % slots_of class) (mod-lt word some))

-- a new object in a new span
span_taken : (t : Table) (class word serial len : ℕ) → IsSound t → 1 ≤ slots_of class → pages_of class ≤ t.free_pages
    → TakesSpan t class word serial len (placed_in (with_span t class) (fresh_group t.next_span class t.next_page) word serial len)
span_taken t class word serial len sound some paged = record {
  address = ap (slot_address t.next_page class) (fresh_picked t.next_span class t.next_page word some);
  filled = changed_there (with_span t class) fresh (picked_slot fresh word) slot (last_found t.next_span t.groups fresh none refl)
      ∙ ap (λ (k : ℕ). Some (with_object_in k slot fresh)) (fresh_picked t.next_span class t.next_page word some);
  next_span = refl;
  next_page = refl;
  free_pages = omega (arith, paged);
  others = λ n apart. find_changed_other t.next_span n (with_object_in (picked_slot fresh word) slot) (t.groups ++ fresh ∷ []) (λ x. refl) apart
      ∙ other_last n t.groups apart;
}
  where
    fresh : Group
    fresh = fresh_group t.next_span class t.next_page

    slot : Slot
    slot = record { member = t.next_page; serial = serial; len = len }

    none : group_of t t.next_span ≡ None
    none = none_from 0 t.next_span t.next_span t.groups sound.numbers (omega arith)

    other_last : (n : ℕ) (gs : List Group) → n ≢ t.next_span → find (has_number n) (gs ++ fresh ∷ []) ≡ find (has_number n) gs
    other_last n [] apart = elim (eqb_tells t.next_span n) [ inl same ↦ absurd (apart (sym same.1)) | inr other ↦ rw other.0 refl ]
    other_last n (x ∷ xs) apart = grind (arith, other_last n xs apart)

-- a number that isn't less is at least the other
at_least : (a b : ℕ) → nat_lt a b ≡ false → b ≤ a
at_least a b h = grind (arith, nat_tests)

-- what a new object that isn't refused went through
went_in : (t : Table) (len word serial class : ℕ) (placed : Placed) → class_for len ≡ Some class → place_new t len word serial ≡ Ok placed
    → place_in (find (is_open t class) t.groups) t class word serial len ≡ Ok placed
went_in t len word serial class placed is h =
    let some = refuse_if_went Zero (nat_eq len 0) _ placed h in
    let of_class = or_refuse_went TooLarge (class_for len) _ placed some.1 in
    let both : Some of_class.value ≡ Some class = sym of_class.is ∙ is in let same : of_class.value ≡ class = cc both in
    subst (λ (c : ℕ). place_in (find (is_open t c) t.groups) t c word serial len ≡ Ok placed) same of_class.then

-- where some group is open, a new object stands in the lowest
pub new_takes_open : (t : Table) (len word serial class i : ℕ) (some : Group) (placed : Placed) → IsSound t → class_for len ≡ Some class
    → slice_get t.groups i ≡ Some some → is_open t class some ≡ true → place_new t len word serial ≡ Ok placed
    → TakesOpen t class word serial len placed
new_takes_open t len word serial class i some placed sound is at open_ h =
    by_found (find (is_open t class) t.groups) refl (went_in t len word serial class placed is h)
  where
    by_found : (o : Option Group) → find (is_open t class) t.groups ≡ o → place_in o t class word serial len ≡ Ok placed
        → TakesOpen t class word serial len placed
    by_found None found went = absurd (let clash : true ≡ false = sym open_ ∙ none_found_passes Group (is_open t class) t.groups found i some at in cc clash)
    by_found (Some g) found went = grind (arith, open_taken t class word serial len g sound found)

-- where none is, in a new span
pub new_takes_span : (t : Table) (len word serial class : ℕ) (placed : Placed) → IsSound t → class_for len ≡ Some class
    → ((i : ℕ) (group : Group) → slice_get t.groups i ≡ Some group → is_open t class group ≡ false) → place_new t len word serial ≡ Ok placed
    → TakesSpan t class word serial len placed
new_takes_span t len word serial class placed sound is none h =
    by_found (find (is_open t class) t.groups) refl (went_in t len word serial class placed is h)
  where
    by_found : (o : Option Group) → find (is_open t class) t.groups ≡ o → place_in o t class word serial len ≡ Ok placed
        → TakesSpan t class word serial len placed
    by_found (Some g) found went = grind (arith, found_passes Group (is_open t class) t.groups g found)
    by_found None found went =
        let room = went_on (room_for_span t class) _ placed went in
        let pages = refuse_if_went NoPages (nat_lt t.free_pages (pages_of class)) _ room.value room.is in
        let enough : pages_of class ≤ t.free_pages = at_least t.free_pages (pages_of class) pages.0 in
        let done = room.then in
        let one : placed_in (with_span t class) (fresh_group t.next_span class t.next_page) word serial len ≡ placed = cc done in
        let slots = fresh_open t.next_span class t.next_page (class_fits len class is).1 in
        let long = length-replicate {A = Option Slot} (slots_of class) None in
        subst (λ (x : Placed). TakesSpan t class word serial len x) one
        (span_taken t class word serial len sound (omega (arith, slots, long)) enough)
