-- The free slots of a group, and the set of those that are taken.
use Rattle.std.proofs.Common.{◌≡◌, ℕ, zero, suc, ◌+◌, ◌<◌, ◌-◌, ◌%◌, Bool, true, false, not, if◌then◌else◌, List, [], ◌∷◌, Option, Some, None, is_some, length, map, take, count_by, replicate, slice_get, slice_index, slice_index_or, ap, refl, sym, ◌∙◌, arith}
use Rattle.std.proofs.lemmas.List.{length-map}
use Rattle.std.proofs.lemmas.List.Sums.{sum_by-cons}
use Rattle.std.proofs.lemmas.Option.{slice_get-get_or}
use Rattle.mesh_bits.specs.Bits.{is_member, member_count, clear_count}
use Rattle.model_heap.specs.Table.{Slot, free_from}
use Rattle.std.proofs.lemmas.List.{get_or-set_other, get_or-set_same, length-set}
use Rattle.mesh_class.specs.Classes.{IsClass, pages_of}
use Rattle.std.proofs.Math.ListN.{length-replicate}
use Rattle.mesh_spans.specs.Index.{GroupEntry, IsGroup, IsObject, new_group, with_slot}

-- one number more
clear_more : (b : Bool) (set : List Bool) → clear_count (b ∷ set) ≡ (if b then 0 else 1) + clear_count set
clear_more true set = sum_by-cons (λ (x : Bool). if not x then 1 else 0) true set
clear_more false set = sum_by-cons (λ (x : Bool). if not x then 1 else 0) false set

member_more : (b : Bool) (set : List Bool) → member_count (b ∷ set) ≡ (if b then 1 else 0) + member_count set
member_more b set = sum_by-cons (λ (x : Bool). if x then 1 else 0) b set

-- there are as many free slots as numbers that are not in the set
pub free_length : (b : ℕ) (slots : List (Option Slot)) → length (free_from b slots) ≡ clear_count (map is_some slots)
free_length b [] = refl
free_length b (None ∷ slots) = let more = clear_more false (map is_some slots) in let rest = free_length (b + 1) slots in
    omega (arith, more, rest)
free_length b (Some slot ∷ slots) = let more = clear_more true (map is_some slots) in let rest = free_length (b + 1) slots in
    omega (arith, more, rest)

-- each number is in the set or not
pub member_or_clear : (set : List Bool) → member_count set + clear_count set ≡ length set
member_or_clear [] = refl
member_or_clear (b ∷ set) = step b (member_more b set) (clear_more b set) (member_or_clear set)
  where
    step : (b : Bool) → member_count (b ∷ set) ≡ (if b then 1 else 0) + member_count set
        → clear_count (b ∷ set) ≡ (if b then 0 else 1) + clear_count set → member_count set + clear_count set ≡ length set
        → member_count (b ∷ set) + clear_count (b ∷ set) ≡ length (b ∷ set)
    step true m c rest = omega (arith, m, c, rest)
    step false m c rest = omega (arith, m, c, rest)

-- as many slots are filled as the set has members
pub filled_count : (slots : List (Option Slot)) → member_count (map is_some slots) ≡ count_by is_some slots
filled_count [] = refl
filled_count (x ∷ slots) = member_more (is_some x) (map is_some slots) ∙ ap (λ (n : ℕ). (if is_some x then 1 else 0) + n) (filled_count slots)
    ∙ sym (sum_by-cons (λ (y : Option Slot). if is_some y then 1 else 0) x slots)

-- a number that is not in the set is that of the free slot at the place of as many
pub nth_free : (b i place : ℕ) (slots : List (Option Slot)) → clear_count (take i (map is_some slots)) ≡ place → i < length slots
    → is_member (map is_some slots) i ≡ false → slice_index (free_from b slots) place ≡ b + i
nth_free b i place [] e below clear = absurd (omega (arith, below))
nth_free b zero zero (None ∷ slots) e below clear = omega arith
nth_free b zero (suc place) (None ∷ slots) e below clear = absurd (omega (arith, e))
nth_free b zero place (Some slot ∷ slots) e below clear = absurd (cc clear)
nth_free b (suc i) zero (None ∷ slots) e below clear =
    let more = clear_more false (take i (map is_some slots)) in absurd (omega (arith, e, more))
nth_free b (suc i) (suc place) (None ∷ slots) e below clear =
    let more = clear_more false (take i (map is_some slots)) in
    let rest = nth_free (b + 1) i place slots (omega (arith, e, more)) (omega (arith, below)) clear in omega (arith, rest)
nth_free b (suc i) place (Some slot ∷ slots) e below clear =
    let more = clear_more true (take i (map is_some slots)) in
    let rest = nth_free (b + 1) i place slots (omega (arith, e, more)) (omega (arith, below)) clear in omega (arith, rest)

-- nothing stands in a slot whose number is not in the set
pub clear_is_free : (i : ℕ) (slots : List (Option Slot)) → i < length slots → is_member (map is_some slots) i ≡ false
    → slice_get slots i ≡ Some None
clear_is_free i [] below clear = absurd (omega (arith, below))
clear_is_free zero (None ∷ slots) below clear = refl
clear_is_free zero (Some slot ∷ slots) below clear = absurd (cc clear)
clear_is_free (suc i) (x ∷ slots) below clear = clear_is_free i slots (omega (arith, below)) clear

-- no slot of a new group is in the set
pub none_filled : (n : ℕ) → map is_some (replicate {A = Option Slot} n None) ≡ replicate n false
none_filled zero = refl
none_filled (suc n) = ap (λ (set : List Bool). false ∷ set) (none_filled n)

-- nothing stands in a slot of a new group
pub none_in : (n k : ℕ) → slice_index_or {A = Option Slot} (replicate n None) k None ≡ None
none_in zero k = refl
none_in (suc n) zero = refl
none_in (suc n) (suc k) = none_in n k

-- a place of a list of nothing has nothing
pub none_got : (n k : ℕ) → k < n → slice_get {X = Option Slot} (replicate n None) k ≡ Some None
none_got n k below =
    slice_get-get_or (replicate n None) k None (omega (arith, length-replicate {A = Option Slot} n None, below)) ∙ ap Some (none_in n k)

-- the number found is the one that the word picks among the free slots
pub picked : (slots : List (Option Slot)) (set : List Bool) (word free place i total : ℕ) → set ≡ map is_some slots → length slots ≡ total
    → free ≡ total - member_count set → place ≡ word % free → clear_count (take i set) ≡ place → i < length set → is_member set i ≡ false
    → i ≡ slice_index (free_from 0 slots) (word % length (free_from 0 slots))
picked slots set word free place i total is long count at before below clear =
    let whole = member_or_clear set in let long' : length set ≡ length slots = ap length is ∙ length-map slots is_some in
    let same : length (free_from 0 slots) ≡ free = free_length 0 slots ∙ ap clear_count (sym is)
    ∙ (let left : clear_count set ≡ total - member_count set = omega (arith, whole, long', long) in left ∙ sym count) in
    let found : slice_index (free_from 0 slots) place ≡ 0 + i = nth_free 0 i place slots
    (ap (λ (xs : List Bool). clear_count (take i xs)) (sym is) ∙ before)
    (omega (arith, below, long')) (ap (λ (xs : List Bool). is_member xs i) (sym is) ∙ clear) in
    rw same (rw (← at) (let plain : 0 + i ≡ i = omega arith in sym (found ∙ plain)))

-- a new group is one
pub IsGroup_new : (class member : ℕ) (pages : List ℕ) → IsClass class → length pages ≡ pages_of class → IsGroup (new_group class member pages)
IsGroup_new class member pages sound long = grind (arith, length-replicate, none_in)

-- a group with another entry in a slot is one
pub IsGroup_put : (group : GroupEntry) (k : ℕ) (entry : Option Slot) → k < length group.slots → IsObject group.class entry → IsGroup group
    → IsGroup (with_slot k entry group)
IsGroup_put group k entry below fits sound = grind (arith, length-set, get_or-set_same, get_or-set_other)
