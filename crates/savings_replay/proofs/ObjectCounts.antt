-- How many objects of a table pass a test, as its objects are made, freed, swept and meshed.
use Rattle.std.proofs.Common.{◌≡◌, ◌≢◌, ◌∙◌, ℕ, zero, suc, ◌+◌, ◌%◌, ◌<◌, ◌≤◌, Bool, true, false, not, ◌&&◌, cond, if◌then◌else◌, nat_eq, is_some, List, [], ◌∷◌, length, map, filter, find, replicate, Option, Some, None, IsSome, Ok, ap, refl, subst, sym, arith, rules, inl, inr}
use Rattle.std.specs.Prelude.{count_by, sum_by, slice_get, slice_index, slice_set}
use Rattle.std.specs.Option.{option_map_or}
use Rattle.std.proofs.lemmas.Bool.Decides.{eqb_tells, leb_tells}
use Rattle.std.proofs.lemmas.List.{length-replicate}
use Rattle.std.proofs.lemmas.List.Sums.{sum_by-cons, sum_by_push}
use Rattle.std.proofs.lemmas.Nat.{mod_below}
use Rattle.model_words.specs.Classes.{Row, class_for, row_of, slots_of, table}
use Rattle.model_heap.proofs.GroupLists.{ascend_mapped, ascend_more, changed_number, find_again, find_changed_other, find_number, find_sound, first_or_later, without_none}
use Rattle.model_heap.proofs.MayBegin.{meshed}
use Rattle.model_heap.proofs.NewObjects.{by_place, last_found, none_from}
use Rattle.model_heap.proofs.TableChanges.{differ}
use Rattle.model_heap.specs.Mesh.{do_overlap, either_slot, merged, merged_into, mesh_of_class, mesh_whole, united}
use Rattle.model_heap.specs.Sound.{AscendBetween, IsSound, IsSoundGroup}
use Rattle.model_heap.specs.Table.{Counted, Group, Placed, Slot, Table, changed_at, emptied_of, first_member, free_from, fresh_group, group_of, group_without, has_number, object_count, picked_slot, place_new, placed_in, with_object_in, with_span, without_object}
use Rattle.savings_replay.proofs.FilledGroups.{has_object, swept_filled}
use Rattle.savings_replay.specs.Sweeps.{swept}
use Rattle.savings_replay.specs.Alike.{Test, count_in, objects_where, passes}

-- a count as a sum
abbrev one : {A : Type 0} → (A → Bool) → A → ℕ
one p x = cond (p x) 1 0

-- an object is freed

-- the test of all objects but that of a serial
abbrev pub but : Test → ℕ → Test
but test freed class serial len = test class serial len && not (nat_eq serial freed)

slot_freed : (test : Test) (freed class : ℕ) (slot : Slot) → passes test class (emptied_of freed (Some slot)) ≡ passes (but test freed) class (Some slot)
slot_freed test freed class slot =
    elim (nat_eq slot.serial freed) as (λ b. passes test class (if b then None else Some slot) ≡ (test class slot.serial slot.len && not b)) [
      | true ↦ sym (never (test class slot.serial slot.len))
      | false ↦ sym (always (test class slot.serial slot.len))
    ]
  where
    never : (b : Bool) → (b && false) ≡ false
    never true = refl
    never false = refl

    always : (b : Bool) → (b && true) ≡ b
    always true = refl
    always false = refl

slots_freed : (test : Test) (freed class : ℕ) (slots : List (Option Slot))
    → count_by (passes test class) (map (emptied_of freed) slots) ≡ count_by (passes (but test freed) class) slots
slots_freed test freed class [] = refl
slots_freed test freed class (None ∷ slots) =
    let rest = slots_freed test freed class slots in
    omega (arith, rest, sum_by-cons (one (passes test class)) None (map (emptied_of freed) slots), sum_by-cons (one (passes (but test freed) class)) None slots)
slots_freed test freed class (Some slot ∷ slots) =
    let rest = slots_freed test freed class slots in
    let here : one (passes test class) (emptied_of freed (Some slot)) ≡ one (passes (but test freed) class) (Some slot) =
    ap (λ b. cond b 1 0) (slot_freed test freed class slot) in
    omega (
      arith,
      rest,
      here,
      sum_by-cons (one (passes test class)) (emptied_of freed (Some slot)) (map (emptied_of freed) slots),
      sum_by-cons (one (passes (but test freed) class)) (Some slot) slots,
    )

groups_freed : (test : Test) (freed : ℕ) (groups : List Group)
    → sum_by (count_in test) (map (group_without freed) groups) ≡ sum_by (count_in (but test freed)) groups
groups_freed test freed [] = refl
groups_freed test freed (g ∷ groups) =
    let rest = groups_freed test freed groups in
    let here : count_in test (group_without freed g) ≡ count_in (but test freed) g = slots_freed test freed g.class g.slots in
    omega (arith, rest, here, sum_by-cons (count_in test) (group_without freed g) (map (group_without freed) groups), sum_by-cons (count_in (but test freed)) g groups)

pub free_count : (test : Test) (t : Table) (serial : ℕ) → objects_where test (without_object t serial) ≡ objects_where (but test serial) t
free_count test t serial = groups_freed test serial t.groups

-- one group of many

unchanged : (n : ℕ) (change : Group → Group) (groups : List Group) → find (has_number n) groups ≡ None → map (changed_at n change) groups ≡ groups
unchanged n change [] none = refl
unchanged n change (x ∷ xs) none = grind (arith, unchanged n change xs)

sum_changed : (f : Group → ℕ) (n low high : ℕ) (change : Group → Group) (groups : List Group) (g : Group) → AscendBetween low groups high
    → find (has_number n) groups ≡ Some g → sum_by f (map (changed_at n change) groups) + f g ≡ sum_by f groups + f (change g)
sum_changed f n low high change [] g ascend found = absurd (cc)
sum_changed f n low high change (x ∷ xs) g ascend found = elim (first_or_later n low high x xs g ascend found) [
  | inl first ↦ rw (first.0, unchanged n change xs first.2, first.1) (omega (arith, sum_by-cons f g xs, sum_by-cons f (change g) xs))
  | inr later ↦ rw later.0 (let rest = sum_changed f n (x.number + 1) high change xs g ascend.1 later.1 in
      omega (arith, rest, sum_by-cons f x xs, sum_by-cons f x (map (changed_at n change) xs)))
]

sum_without : (f : Group → ℕ) (n low high : ℕ) (groups : List Group) (g : Group) → AscendBetween low groups high → find (has_number n) groups ≡ Some g
    → sum_by f (filter (λ x. not (has_number n x)) groups) + f g ≡ sum_by f groups
sum_without f n low high [] g ascend found = absurd (cc)
sum_without f n low high (x ∷ xs) g ascend found = elim (first_or_later n low high x xs g ascend found) [
  | inl first ↦ rw (first.0, without_none n xs first.2, first.1) (omega (arith, sum_by-cons f g xs))
  | inr later ↦ rw later.0 (let rest = sum_without f n (x.number + 1) high xs g ascend.1 later.1 in
      omega (arith, rest, sum_by-cons f x xs, sum_by-cons f x (filter (λ y. not (has_number n y)) xs)))
]

-- an object is made

slot_set : (test : Test) (class k : ℕ) (slot : Slot) (slots : List (Option Slot)) → slice_get slots k ≡ Some None
    → count_by (passes test class) (slice_set slots k (Some slot)) ≡ count_by (passes test class) slots + (if test class slot.serial slot.len then 1 else 0)
slot_set test class k slot [] free = absurd (cc)
slot_set test class zero slot (None ∷ slots) free =
    omega (arith, sum_by-cons (one (passes test class)) None slots, sum_by-cons (one (passes test class)) (Some slot) slots)
slot_set test class zero slot (Some other ∷ slots) free = absurd (cc)
slot_set test class (suc k) slot (x ∷ slots) free =
    let rest = slot_set test class k slot slots free in
    omega (arith, rest, sum_by-cons (one (passes test class)) x slots, sum_by-cons (one (passes test class)) x (slice_set slots k (Some slot)))

-- the number of a free slot is among the slots
pub record IsFree (k number : ℕ) (slots : List (Option Slot)) : Type 0 where
  pub place : ℕ
  pub is : number ≡ k + place
  pub free : slice_get slots place ≡ Some None

free_at : (slots : List (Option Slot)) (k i : ℕ) → i < length (free_from k slots) → IsFree k (slice_index (free_from k slots) i) slots
free_at [] k i below = absurd (omega (arith, below))
free_at (None ∷ slots) k zero below = record { place = 0; is = omega arith; free = refl }
free_at (None ∷ slots) k (suc i) below =
    let rest = free_at slots (k + 1) i (omega (arith, below)) in
    record { place = suc rest.place; is = let is = rest.is in omega (arith, is); free = rest.free }
free_at (Some slot ∷ slots) k i below =
    let rest = free_at slots (k + 1) i below in
    record { place = suc rest.place; is = let is = rest.is in omega (arith, is); free = rest.free }

free_total : (slots : List (Option Slot)) (k : ℕ) → length (free_from k slots) + count_by is_some slots ≡ length slots
free_total [] k = refl
free_total (None ∷ slots) k = let rest = free_total slots (k + 1) in omega (arith, rest, sum_by-cons (one (is_some {T = Slot})) None slots)
free_total (Some slot ∷ slots) k = let rest = free_total slots (k + 1) in omega (arith, rest, sum_by-cons (one (is_some {T = Slot})) (Some slot) slots)

pub picked_free : (g : Group) (word : ℕ) → object_count g < length g.slots → slice_get g.slots (picked_slot g word) ≡ Some None
picked_free g word some =
    let free : List ℕ = free_from 0 g.slots in
    let total : length free + object_count g ≡ length g.slots = free_total g.slots 0 in
    let below : word % length free < length free = mod_below word (length free) (omega (arith, total, some)) in
    let at : IsFree 0 (picked_slot g word) g.slots = free_at g.slots 0 (word % length free) below in
    let place : at.place ≡ picked_slot g word = (let is = at.is in omega (arith, is)) in
    subst (λ k. slice_get g.slots k ≡ Some None) place at.free

none_in : (test : Test) (class n : ℕ) → count_by (passes test class) (replicate n None) ≡ 0
none_in test class zero = refl
none_in test class (suc n) = let rest = none_in test class n in omega (arith, rest, sum_by-cons (one (passes test class)) None (replicate n None))

pub none_filled : (n : ℕ) → count_by (is_some {T = Slot}) (replicate n None) ≡ 0
none_filled zero = refl
none_filled (suc n) = let rest = none_filled n in omega (arith, rest, sum_by-cons (one (is_some {T = Slot})) None (replicate n None))

-- what an object of a class counts for a test
abbrev pub new_one : Test → Option ℕ → ℕ → ℕ → ℕ
new_one test None serial len = 0
new_one test (Some class) serial len = if test class serial len then 1 else 0

put_count : (test : Test) (t : Table) (g : Group) (word serial len low high : ℕ) → AscendBetween low t.groups high → group_of t g.number ≡ Some g
    → object_count g < length g.slots
    → objects_where test (placed_in t g word serial len).table ≡ objects_where test t + (if test g.class serial len then 1 else 0)
put_count test t g word serial len low high ascend there some =
    let slot : Slot = record { member = first_member g; serial = serial; len = len } in
    let change : Group → Group = with_object_in (picked_slot g word) slot in
    let sums : sum_by (count_in test) (map (changed_at g.number change) t.groups) + count_in test g ≡ sum_by (count_in test) t.groups + count_in test (change g) =
    sum_changed (count_in test) g.number low high change t.groups g ascend there in
    let here : count_in test (change g) ≡ count_in test g + (if test g.class serial len then 1 else 0) =
    slot_set test g.class (picked_slot g word) slot g.slots (picked_free g word some) in
    omega (arith, sums, here)

-- each row has a slot
abbrev HaveSlots : List Row → Type 0
HaveSlots [] = Unit {0}
HaveSlots (row ∷ rows) = (1 ≤ row.slots) × HaveSlots rows

rows_have_slots : (size : ℕ) (rows : List Row) → HaveSlots rows → IsSome (find (λ r. nat_eq r.size size) rows)
    → 1 ≤ option_map_or (λ r. r.slots) (find (λ r. nat_eq r.size size) rows) 0
rows_have_slots size [] have some = absurd (search rules)
rows_have_slots size (row ∷ rows) have some = elim (eqb_tells row.size size) [
  | inl same ↦ rw same.0 have.0
  | inr other ↦ rw other.0 (rows_have_slots size rows have.1 (rw other.0 at some))
]

pub class_has_slots : (class : ℕ) → IsSome (row_of class) → 1 ≤ slots_of class
unfolding slots_of
class_has_slots class some = rows_have_slots class table
    (omega arith, (omega arith, (omega arith, (omega arith, (omega arith, (omega arith, (omega arith, (omega arith, (omega arith, (omega arith, tt)))))))))) some

-- a new object is one more of those that pass, if it does
pub new_count : (test : Test) (t : Table) (len word serial : ℕ) (placed : Placed) → IsSound t → place_new t len word serial ≡ Ok placed
    → objects_where test placed.table ≡ objects_where test t + new_one test (class_for len) serial len
new_count test t len word serial placed sound went =
    by_place (λ (x : Placed). objects_where test x.table ≡ objects_where test t + new_one test (class_for len) serial len) t len word serial placed sound
    (λ class g at.
    let put = put_count test t g word serial len 0 t.next_span sound.numbers at.there at.is_open.some_slot in
    rw at.class_is (subst (λ c. objects_where test (placed_in t g word serial len).table ≡ objects_where test t + (if test c serial len then 1 else 0)) at.is_open.class_is put))
    (λ class at.
    let fresh : Group = fresh_group t.next_span class t.next_page in
    let u : Table = with_span t class in
    let there : group_of u t.next_span ≡ Some fresh = last_found t.next_span t.groups fresh (none_from 0 t.next_span t.next_span t.groups sound.numbers (omega arith)) refl in
    let slots : length fresh.slots ≡ slots_of class = length-replicate (slots_of class) None in
    let empty : object_count fresh ≡ 0 = none_filled (slots_of class) in
    let some : 1 ≤ slots_of class = class_has_slots class at.row in
    let put : objects_where test (placed_in u fresh word serial len).table ≡ objects_where test u + (if test class serial len then 1 else 0) =
    put_count test u fresh word serial len 0 (t.next_span + 1) (ascend_more 0 t.next_span t.groups fresh refl sound.numbers) there (omega (arith, slots, empty, some)) in
    let none : count_in test fresh ≡ 0 = none_in test class (slots_of class) in
    let push : objects_where test u ≡ objects_where test t + count_in test fresh = sum_by_push (count_in test) t.groups fresh in
    rw at.class_is (omega (arith, put, none, push))) went

-- empty groups are swept

count_few : (test : Test) (class : ℕ) (slots : List (Option Slot)) → count_by (passes test class) slots ≤ count_by is_some slots
count_few test class [] = omega arith
count_few test class (None ∷ slots) =
    let rest = count_few test class slots in
    omega (arith, rest, sum_by-cons (one (passes test class)) None slots, sum_by-cons (one (is_some {T = Slot})) None slots)
count_few test class (Some slot ∷ slots) =
    let rest = count_few test class slots in
    let here : one (passes test class) (Some slot) ≤ 1 = at_most (test class slot.serial slot.len) in
    omega (arith, rest, here, sum_by-cons (one (passes test class)) (Some slot) slots, sum_by-cons (one (is_some {T = Slot})) (Some slot) slots)
  where
    at_most : (b : Bool) → cond b 1 0 ≤ 1
    at_most true = omega arith
    at_most false = omega arith

filled_count : (test : Test) (groups : List Group) → sum_by (count_in test) (filter has_object groups) ≡ sum_by (count_in test) groups
filled_count test [] = refl
filled_count test (g ∷ groups) =
    let rest = filled_count test groups in
    elim (leb_tells 1 (object_count g)) [
      | inl some ↦ rw some.0 (omega (arith, rest, sum_by-cons (count_in test) g groups, sum_by-cons (count_in test) g (filter has_object groups)))
      | inr none ↦ rw none.0 (let few = count_few test g.class g.slots in omega (arith, rest, few, none.1, sum_by-cons (count_in test) g groups))
    ]

pub swept_count : (test : Test) (t : Table) → IsSound t → t.meshes ≡ [] → objects_where test (swept t) ≡ objects_where test t
swept_count test t sound calm = ap (objects_where test) (swept_filled t sound calm) ∙ filled_count test t.groups

-- groups are meshed

united_count : (test : Test) (class : ℕ) (xs ys : List (Option Slot)) → length xs ≡ length ys → do_overlap xs ys ≡ false
    → count_by (passes test class) (united ys xs) ≡ count_by (passes test class) ys + count_by (passes test class) xs
united_count test class [] [] long apart = refl
united_count test class [] (y ∷ ys) long apart = absurd (omega (arith, long))
united_count test class (x ∷ xs) [] long apart = absurd (omega (arith, long))
united_count test class (None ∷ xs) (y ∷ ys) long apart =
    let rest = united_count test class xs ys (omega (arith, long)) (apart_on y xs ys apart) in
    let here : one (passes test class) (either_slot y None) ≡ one (passes test class) y = kept y in
    omega (
      arith,
      rest,
      here,
      sum_by-cons (one (passes test class)) None xs,
      sum_by-cons (one (passes test class)) y ys,
      sum_by-cons (one (passes test class)) (either_slot y None) (united ys xs),
    )
  where
    apart_on : (y : Option Slot) (xs ys : List (Option Slot)) → do_overlap (None ∷ xs) (y ∷ ys) ≡ false → do_overlap xs ys ≡ false
    apart_on None xs ys apart = apart
    apart_on (Some y) xs ys apart = apart

    kept : (y : Option Slot) → one (passes test class) (either_slot y None) ≡ one (passes test class) y
    kept None = refl
    kept (Some y) = refl
united_count test class (Some x ∷ xs) (None ∷ ys) long apart =
    let rest = united_count test class xs ys (omega (arith, long)) apart in
    omega (
      arith,
      rest,
      sum_by-cons (one (passes test class)) (Some x) xs,
      sum_by-cons (one (passes test class)) None ys,
      sum_by-cons (one (passes test class)) (Some x) (united ys xs),
    )
united_count test class (Some x ∷ xs) (Some y ∷ ys) long apart = absurd (cc apart)

pub mesh_count : (test : Test) (t : Table) (source destination : ℕ) (whole : Counted) → IsSound t
    → mesh_whole mesh_of_class t source destination ≡ Ok whole → objects_where test whole.table ≡ objects_where test t
mesh_count test t source destination whole sound went =
    let made = meshed mesh_of_class t source destination whole went in
    let a : Group = made.pair.source in
    let b : Group = made.pair.destination in
    let may = made.may in
    let two : source ≢ destination = differ source destination may.two in
    let changed : List Group = map (changed_at destination (merged_into a)) t.groups in
    let number : a.number ≡ source = find_number source t.groups a may.source_is in
    let ascend : AscendBetween 0 changed t.next_span =
    ascend_mapped 0 t.next_span (changed_at destination (merged_into a)) t.groups (changed_number destination (merged_into a) (λ g. refl)) sound.numbers in
    let found : find (has_number a.number) changed ≡ Some a =
    find_changed_other destination a.number (merged_into a) t.groups (λ x. refl) (λ e. two (sym number ∙ e))
    ∙ find_again (has_number source) 0 t.next_span t.groups a sound.numbers may.source_is in
    let sound_a : IsSoundGroup a = find_sound (has_number source) t.groups a may.source_is sound.groups in
    let sound_b : IsSoundGroup b = find_sound (has_number destination) t.groups b may.destination_is sound.groups in
    let long : length a.slots ≡ length b.slots = sound_a.places ∙ ap (λ c. slots_of c) may.class ∙ sym sound_b.places in
    let both : count_in test (merged_into a b) ≡ count_in test b + count_in test a =
    united_count test b.class a.slots b.slots long may.apart ∙ ap (λ c. count_in test b + count_by (passes test c) a.slots) (sym may.class) in
    let merge : sum_by (count_in test) changed + count_in test b ≡ sum_by (count_in test) t.groups + count_in test (merged_into a b) =
    sum_changed (count_in test) destination 0 t.next_span (merged_into a) t.groups b sound.numbers may.destination_is in
    let out : sum_by (count_in test) (merged t.groups a destination) + count_in test a ≡ sum_by (count_in test) changed =
    sum_without (count_in test) a.number 0 t.next_span changed a ascend found in
    let is : sum_by (count_in test) (merged t.groups a destination) ≡ objects_where test whole.table = ap (λ (x : Counted). objects_where test x.table) made.is in
    omega (arith, both, merge, out, is)
