-- Where a new object is placed: in the lowest open group of its class, or in a new span if no group is open, and in the
-- free slot that the word picks.
use Rattle.std.specs.Prelude.{◌≡◌, ◌↔◌, ℕ, ◌+◌, ◌-◌, ◌<◌, ◌≤◌, Err, ◌≢◌, ◌%◌, true, false, not, is_some, List, [], ◌∷◌, Option, Some, None, Ok, count_by, replicate, slice_get, slice_set, take}
use Rattle.model_words.specs.Classes.{pages_of, class_for, slots_of}
use Rattle.model_words.specs.declared.refusals.Refusal.TheVariants.{NoAddresses}
use Rattle.model_heap.specs.Table.{Table, room_for_span, Group, Placed, Slot, group_of, is_open, place_new, slot_address}
use Rattle.model_heap.specs.Sound.{IsSound}

-- how many of the slots are free
abbrev pub free_slots : List (Option Slot) → ℕ
free_slots slots = count_by (λ slot. not (is_some slot)) slots

-- the object is in a free slot of the group's first member; the number of free slots below this slot is the word modulo
-- the number of all free slots
pub record IsPicked (group : Group) (word serial len : ℕ) (placed : Placed) : Type 0 where
  pub k : ℕ
  pub member : ℕ
  pub free : slice_get group.slots k ≡ Some None
  pub below : free_slots (take k group.slots) ≡ word % free_slots group.slots
  pub first : slice_get group.members 0 ≡ Some member
  pub address : placed.address ≡ slot_address member group.class k
  pub filled : group_of placed.table group.number
      ≡ Some (record group { slots = slice_set group.slots k (Some (record { member = member; serial = serial; len = len })) })

-- the object is in the lowest open group of the class, and every other group is unchanged
pub record TakesOpen (t : Table) (class word serial len : ℕ) (placed : Placed) : Type 0 where
  pub group : Group
  pub there : group_of t group.number ≡ Some group
  pub open_is : is_open t class group ≡ true
  pub lowest : (i : ℕ) (other : Group) → slice_get t.groups i ≡ Some other → is_open t class other ≡ true → group.number ≤ other.number
  pub picked : IsPicked group word serial len placed
  pub others : (n : ℕ) → n ≢ group.number → group_of placed.table n ≡ group_of t n

-- in a sound table, if some group is open to the class of the length, a new object is placed in the lowest such group
abbrev pub NewTakesLowestOpen : Type 0
NewTakesLowestOpen = (t : Table) (len word serial class i : ℕ) (some : Group) (placed : Placed) → IsSound t → class_for len ≡ Some class
    → slice_get t.groups i ≡ Some some → is_open t class some ≡ true → place_new t len word serial ≡ Ok placed
    → TakesOpen t class word serial len placed

-- the object is in a new span at the lowest virtual page that was never used, in the slot whose number is the word
-- modulo the number of slots; every other group is unchanged
pub record TakesSpan (t : Table) (class word serial len : ℕ) (placed : Placed) : Type 0 where
  pub address : placed.address ≡ slot_address t.next_page class (word % slots_of class)
  pub filled : group_of placed.table t.next_span ≡ Some (record {
    number = t.next_span;
    class = class;
    members = t.next_page ∷ [];
    slots = slice_set (replicate (slots_of class) None) (word % slots_of class) (Some (record { member = t.next_page; serial = serial; len = len }));
  })
  pub next_span : placed.table.next_span ≡ t.next_span + 1
  pub next_page : placed.table.next_page ≡ t.next_page + pages_of class
  pub free_pages : placed.table.free_pages + pages_of class ≡ t.free_pages
  pub others : (n : ℕ) → n ≢ t.next_span → group_of placed.table n ≡ group_of t n

-- in a sound table, if no group is open to the class of the length, a new object is placed in a new span
abbrev pub NewTakesSpan : Type 0
NewTakesSpan = (t : Table) (len word serial class : ℕ) (placed : Placed) → IsSound t → class_for len ≡ Some class
    → ((i : ℕ) (group : Group) → slice_get t.groups i ≡ Some group → is_open t class group ≡ false) → place_new t len word serial ≡ Ok placed
    → TakesSpan t class word serial len placed

-- a new span is refused with `NoAddresses` if and only if enough physical pages are free and the span's last page would
-- be above the last virtual page. The class must have a page, and `next_page` must be at least 1
abbrev pub RefusedByAddresses : Type 0
RefusedByAddresses = (t : Table) (class : ℕ) → 1 ≤ pages_of class → 1 ≤ t.next_page
    → (room_for_span t class ≡ Err NoAddresses) ↔ ((pages_of class ≤ t.free_pages) × (65535 < t.next_page + (pages_of class - 1)))
