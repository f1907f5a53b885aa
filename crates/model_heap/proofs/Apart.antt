-- The slots of a sound table are apart.
use Rattle.std.proofs.Common.{◌≡◌, ◌≢◌, ℕ, zero, suc, ◌+◌, ◌-◌, ◌*◌, ◌<◌, ◌≤◌, ◌%◌, cond, nat_eq, List, [], ◌∷◌, length, find, flat_map, slice_get, slice_index, count_by, IsSome, is_some, ap, subst, refl, ◌∙◌, arith, inl, inr, Option, Some, None, mul-le-mul_right}
use Rattle.std.specs.List.{range_with_len}
use Rattle.std.specs.Option.{option_map_or}
use Rattle.std.proofs.lemmas.Bool.Decides.{nat_tests, leb_tells}
use Rattle.std.proofs.lemmas.List.Sums.{sum_by-cons}
use Rattle.std.proofs.lemmas.Option.{slice_get_within}
use Rattle.model_heap.proofs.GroupLists.{times_in-append, pages_in, find_sound, pages_without}
use Rattle.model_heap.proofs.GroupPages.{page_of_one}
use Rattle.model_heap.proofs.TableChanges.{class_paged, one_group}
use Rattle.model_words.specs.Classes.{Row, table, row_of, pages_of, slots_of}
use Rattle.model_heap.specs.Mesh.{virtual_pages}
use Rattle.model_heap.specs.Sound.{times_in, IsSound, IsSoundGroup}
use Rattle.model_heap.specs.TableLaws.{AreApart}
use Rattle.model_heap.specs.Table.{Slot, Group, Table, group_of, has_number, slot_address, free_from, picked_slot, object_count}

-- the slots of each row fill its pages
abbrev AreFull : List Row → Type 0
AreFull [] = Unit {0}
AreFull (r ∷ rows) = (r.slots * r.size ≡ r.pages * 4096) × AreFull rows

-- the slots of a row found among those fill its pages
row_full : (class : ℕ) (rows : List Row) → AreFull rows → IsSome (find (λ r. nat_eq r.size class) rows)
    → option_map_or (λ r. r.slots) (find (λ r. nat_eq r.size class) rows) 0 * class
    ≡ option_map_or (λ r. r.pages) (find (λ r. nat_eq r.size class) rows) 0 * 4096
row_full class [] full h = absurd (cc)
row_full class (r ∷ rows) full h = grind (arith, nat_tests, row_full class rows full.1)

-- the slots of a class of the table fill its pages
pub class_full : (class : ℕ) → IsSome (row_of class) → slots_of class * class ≡ pages_of class * 4096
unfolding slots_of pages_of
class_full class h = row_full class table (refl, (refl, (refl, (refl, (refl, (refl, (refl, (refl, (refl, (refl, tt)))))))))) h

-- a slot ends within the pages of its member
slot_end : (k class : ℕ) → k < slots_of class → IsSome (row_of class) → k * class + class ≤ pages_of class * 4096
slot_end k class below row = grind (arith, class_full class row)

-- a page from the first one of a range is in it
range_in : (w a n : ℕ) → a ≤ w → w < a + n → 1 ≤ times_in w (range_with_len a n)
range_in w a zero low high = absurd (omega (arith, low, high))
range_in w a (suc n) low high = grind (arith, range_in w (a + 1) n)

-- the pages of members of so many pages each
abbrev member_pages : ℕ → List ℕ → List ℕ
member_pages n members = flat_map (λ p. range_with_len p n) members

-- a page of a member is one of all
member_in : (v w n : ℕ) (xs : List ℕ) → 1 ≤ times_in v xs → v ≤ w → w < v + n → 1 ≤ times_in w (member_pages n xs)
member_in v w n [] there low high = absurd (omega (arith, there))
member_in v w n (x ∷ xs) there low high =
    grind (arith, nat_tests, times_in-append w (range_with_len x n) (member_pages n xs), member_pages n xs, range_in w x n, member_in v w n xs)

-- a member that is a page of a lower one is there twice
member_twice : (v w n : ℕ) (xs : List ℕ) → 1 ≤ times_in v xs → 1 ≤ times_in w xs → v < w → w < v + n → 2 ≤ times_in w (member_pages n xs)
member_twice v w n [] there there' low high = absurd (omega (arith, there))
member_twice v w n (x ∷ xs) there there' low high = grind (
  arith,
  nat_tests,
  times_in-append w (range_with_len x n) (member_pages n xs),
  range_in w x n,
  member_in w w n xs,
  member_in v w n xs,
  member_twice v w n xs,
)

-- a group's pages are among all
group_in : (t : Table) (w n : ℕ) (g : Group) → IsSound t → group_of t n ≡ Some g → times_in w (virtual_pages g) ≤ pages_in w t.groups
group_in t w n g sound is = let parts = pages_without w n 0 t.next_span t.groups g sound.numbers is in omega (arith, parts)

-- the group of one number is that of an equal one
same_group : (t : Table) (m n : ℕ) (g h : Group) → group_of t m ≡ Some g → group_of t n ≡ Some h → m ≡ n → g ≡ h
same_group t m n g h is is' same = one_group t m g h is (ap (λ (k : ℕ). group_of t k) same ∙ is')

-- a lower member's pages end below a higher member
members_apart : (t : Table) (m n v w : ℕ) (g h : Group) → IsSound t → group_of t m ≡ Some g → group_of t n ≡ Some h → 1 ≤ times_in v g.members
    → 1 ≤ times_in w h.members → 1 ≤ pages_of h.class → v < w → v + pages_of g.class ≤ w
members_apart t m n v w g h sound is is' there there' paged low = grind (
  arith,
  nat_tests,
  member_in v w (pages_of g.class) g.members there,
  member_in w w (pages_of h.class) h.members there',
  same_group t m n g h is is',
  page_of_one t w m n g h sound is is',
  member_twice v w (pages_of g.class) g.members there,
  group_in t w m g sound is,
)

-- a slot of a member of a group of the table
pub record IsPlace (t : Table) (number k member : ℕ) (g : Group) : Type 0 where
  pub is : group_of t number ≡ Some g
  pub there : 1 ≤ times_in member g.members
  pub within : k < slots_of g.class

-- different slots of sound groups have no address in common
pub places_apart : (t : Table) (m n j k v w : ℕ) (g h : Group) → IsSound t → IsPlace t m j v g → IsPlace t n k w h → (m ≡ n → j ≢ k)
    → AreApart (slot_address v g.class j) g.class (slot_address w h.class k) h.class
places_apart t m n j k v w g h sound p q other = grind (
  arith,
  nat_tests,
  members_apart,
  paged',
  end,
  members_apart t n m w v h g sound q.is p.is q.there p.there paged,
  end',
  member_in v v (pages_of g.class) g.members p.there,
  member_in w v (pages_of h.class) h.members q.there,
  page_of_one t v m n g h sound p.is q.is,
  slots_apart v w g.class h.class j k,
)
  where
    sound_g : IsSoundGroup g
    sound_g = find_sound (has_number m) t.groups g p.is sound.groups

    sound_h : IsSoundGroup h
    sound_h = find_sound (has_number n) t.groups h q.is sound.groups

    paged : 1 ≤ pages_of g.class
    paged = class_paged g.class sound_g.class

    paged' : 1 ≤ pages_of h.class
    paged' = class_paged h.class sound_h.class

    end : j * g.class + g.class ≤ pages_of g.class * 4096
    end = slot_end j g.class p.within sound_g.class

    end' : k * h.class + h.class ≤ pages_of h.class * 4096
    end' = slot_end k h.class q.within sound_h.class

    slots_apart : (v w c d j k : ℕ) → v ≡ w → c ≡ d → j ≢ k → AreApart (slot_address v c j) c (slot_address w d k) d
    slots_apart v w c d j k same class apart = subst (λ (x : ℕ). AreApart (slot_address v c j) c (slot_address w x k) x) class (elim (leb_tells (suc j) k) [
      | inl low ↦ let step : (j + 1) * c ≤ k * c = mul-le-mul_right c (omega (arith, low.1)) in inl (omega (arith, step, same))
      | inr high ↦ let step : (k + 1) * c ≤ j * c = mul-le-mul_right c (let below = high.1 in omega (arith, below, apart)) in inr (omega (arith, step, same))
    ])

-- a slot ends below the pages that were never used
pub place_used : (t : Table) (n k v : ℕ) (g : Group) → IsSound t → IsPlace t n k v g → slot_address v g.class k + g.class ≤ 4096 * t.next_page
place_used t n k v g sound p =
    let sound_g = find_sound (has_number n) t.groups g p.is sound.groups in
    let paged = class_paged g.class sound_g.class in
    let end = slot_end k g.class p.within sound_g.class in
    let last : 1 ≤ times_in (v + (pages_of g.class - 1)) (virtual_pages g)
    = member_in v (v + (pages_of g.class - 1)) (pages_of g.class) g.members p.there (omega arith) (omega (arith, paged)) in
    let all = group_in t (v + (pages_of g.class - 1)) n g sound p.is in
    let used = sound.pages_used (v + (pages_of g.class - 1)) (omega (arith, last, all)) in
    omega (arith, end, paged, used.1)

-- a filled slot of a sound table is a place of its member
pub filled_place : (t : Table) (n k : ℕ) (g : Group) (slot : Slot) → IsSound t → group_of t n ≡ Some g → slice_get g.slots k ≡ Some (Some slot)
    → IsPlace t n k slot.member g
filled_place t n k g slot sound is filled =
    grind (arith, nat_tests, find_sound (has_number n) t.groups g is sound.groups, slice_get_within g.slots k (Some slot) filled)

-- a free slot of a list, counted from a number
record IsFree (slots : List (Option Slot)) (from k : ℕ) : Type 0 where
  at : ℕ
  is : k ≡ from + at
  free : slice_get slots at ≡ Some None

-- the numbers of the free slots are of free slots
free_at : (slots : List (Option Slot)) (from i : ℕ) → i < length (free_from from slots) → IsFree slots from (slice_index (free_from from slots) i)
free_at [] from i below = absurd (omega (arith, below))
free_at (None ∷ slots) from zero below = record { at = 0; is = omega arith; free = refl }
free_at (None ∷ slots) from (suc i) below = let rest = free_at slots (from + 1) i (omega (arith, below)) in
    let is : slice_index (free_from (from + 1) slots) i ≡ from + 1 + rest.at = rest.is in
    record { at = suc rest.at; is = omega (arith, is); free = rest.free }
free_at (Some x ∷ slots) from i below = let rest = free_at slots (from + 1) i below in
    let is : slice_index (free_from (from + 1) slots) i ≡ from + 1 + rest.at = rest.is in
    record { at = suc rest.at; is = omega (arith, is); free = rest.free }

-- each slot has an object or is free
pub free_count : (from : ℕ) (slots : List (Option Slot)) → count_by is_some slots + length (free_from from slots) ≡ length slots
free_count from [] = refl
free_count from (None ∷ slots) = let rest = free_count (from + 1) slots in omega (arith, rest)
free_count from (Some x ∷ slots) = let rest = free_count (from + 1) slots in
    let more : count_by is_some (Some x ∷ slots) ≡ 1 + count_by is_some slots = sum_by-cons (λ o. cond (is_some o) 1 0) (Some x) slots in
    omega (arith, rest, more)

-- the slot that a word picks is free
pub picked_free : (g : Group) (word : ℕ) → object_count g < length g.slots → slice_get g.slots (picked_slot g word) ≡ Some None
picked_free g word some = grind (arith, nat_tests, free_count 0 g.slots, free_at g.slots 0 (word % length (free_from 0 g.slots)))
