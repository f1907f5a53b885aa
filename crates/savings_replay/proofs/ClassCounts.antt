-- What the groups of each class count, as the index changes.
use Rattle.std.proofs.Common.{◌≡◌, ◌≢◌, ℕ, ◌+◌, ◌-◌, ◌<◌, ◌≤◌, if◌then◌else◌, nat_eq, true, false, count_by, find, is_some, List, [], ◌∷◌, ◌++◌, Option, Some, None, length, map, slice_get, slice_index, slice_set, sum, take, ap, refl, sym, ◌∙◌, arith, inl, inr}
use Rattle.std.specs.Option.{option_map_or}
use Rattle.std.proofs.lemmas.Bool.{eq-eqb, ne_eqb}
use Rattle.std.proofs.lemmas.Bool.Decides.{eqb_tells, nat_tests}
use Rattle.std.proofs.lemmas.List.{take_all}
use Rattle.std.proofs.lemmas.List.Sums.{sum_by-set, sum_by_more, sum_by_push}
use Rattle.std.proofs.lemmas.Option.{get_or_from_slice_get, slice_get_within}
use Rattle.model_heap.specs.Mesh.{do_overlap, united}
use Rattle.model_heap.specs.Table.{Slot}
use Rattle.model_words.specs.Classes.{Row, row_of, table}
use Rattle.mesh_class.specs.Class.{class_index, place_in}
use Rattle.mesh_class.specs.Classes.{IsClass, slots_of}
use Rattle.mesh_spans.proofs.CountLemmas.{sum_united}
use Rattle.mesh_spans.specs.Index.{GroupEntry, group_at}
use Rattle.savings_replay.specs.ClassCounts.{amount, class_count, count_by_class, counted_for}

-- ten numbers add up to their sum
pub ten_added : (ns : List ℕ) → length ns ≡ 10
    → sum ns ≡ slice_index ns 0 + slice_index ns 1 + slice_index ns 2 + slice_index ns 3 + slice_index ns 4 + slice_index ns 5
    + slice_index ns 6 + slice_index ns 7 + slice_index ns 8 + slice_index ns 9
ten_added ns ten =
    let more : (k : ℕ) → k < 10 → sum (take (k + 1) ns) ≡ sum (take k ns) + slice_index ns k =
    λ k below. sum_by_more (λ (n : ℕ). n) ns k 0 (omega (arith, ten, below)) in
    let whole : sum (take 10 ns) ≡ sum ns = ap sum (take_all 10 ns (omega (arith, ten))) in
    let at : (k : ℕ) → k < 10 → sum (take (k + 1) ns) ≡ sum (take k ns) + slice_index ns k = more in
    omega (
      arith,
      whole,
      at 0 (omega arith),
      at 1 (omega arith),
      at 2 (omega arith),
      at 3 (omega arith),
      at 4 (omega arith),
      at 5 (omega arith),
      at 6 (omega arith),
      at 7 (omega arith),
      at 8 (omega arith),
      at 9 (omega arith),
    )

-- no two of the rows have one size
abbrev pub AreApart : List Row → Type 0
AreApart [] = Unit {0}
AreApart (r ∷ rows) = (find (λ s. nat_eq s.size r.size) rows ≡ None) × AreApart rows

-- the same for each row where it is the same for each size
pub rows_same : (F G : ℕ → ℕ) (rows : List Row) → ((c : ℕ) → G c ≡ F c) → map (λ r. G r.size) rows ≡ map (λ r. F r.size) rows
rows_same F G [] same = refl
rows_same F G (r ∷ rows) same = rw (same r.size, rows_same F G rows same) refl

-- and where no row has the size that differs
rows_without : (F G : ℕ → ℕ) (class : ℕ) (rows : List Row) → find (λ s. nat_eq s.size class) rows ≡ None → ((c : ℕ) → c ≢ class → G c ≡ F c)
    → map (λ r. G r.size) rows ≡ map (λ r. F r.size) rows
rows_without F G class [] none other = refl
rows_without F G class (r ∷ rows) none other = grind (arith, nat_tests, other r.size, rows_without F G class rows)

-- where one size differs, one entry does
rows_one : (F G : ℕ → ℕ) (class : ℕ) (rows : List Row) → AreApart rows → ((c : ℕ) → c ≢ class → G c ≡ F c)
    → map (λ r. G r.size) rows ≡ slice_set (map (λ r. F r.size) rows) (place_in class rows) (G class)
rows_one F G class [] apart other = refl
rows_one F G class (r ∷ rows) apart other = elim (eqb_tells r.size class) [
  | inl same ↦ let none : find (λ s. nat_eq s.size class) rows ≡ None = rw (← same.1) apart.0 in
      rw (same.0, rows_without F G class rows none other, same.1) refl
  | inr miss ↦ rw (miss.0, other r.size miss.1, rows_one F G class rows apart.1 other) refl
]

-- the entry of a class that has a row
rows_at : (F : ℕ → ℕ) (class : ℕ) (rows : List Row) → is_some (find (λ r. nat_eq r.size class) rows) ≡ true
    → slice_index (map (λ r. F r.size) rows) (place_in class rows) ≡ F class
rows_at F class [] some = absurd (cc some)
rows_at F class (r ∷ rows) some = elim (eqb_tells r.size class) [
  | inl same ↦ rw (same.0, same.1) refl
  | inr miss ↦ rw miss.0 (rows_at F class rows (rw miss.0 at some))
]

pub table_apart : AreApart table
table_apart = (refl, (refl, (refl, (refl, (refl, (refl, (refl, (refl, (refl, (refl, tt))))))))))

-- a class has a row
pub class_row : (class : ℕ) → IsClass class → is_some (row_of class) ≡ true
unfolding slots_of
class_row class is = go (row_of class) is.some_slot
  where
    go : (o : Option Row) → 2 ≤ option_map_or (λ r. r.slots) o 0 → is_some o ≡ true
    go None two = absurd (omega (arith, two))
    go (Some r) two = refl

-- as the groups change, one class counts `up` more and `down` less, and every other one what it did
pub record Shifts (count : GroupEntry → ℕ) (old new : List (Option GroupEntry)) (class up down : ℕ) : Type 0 where
  pub here : class_count count new class + down ≡ class_count count old class + up
  pub others : (c : ℕ) → c ≢ class → class_count count new c ≡ class_count count old c

-- the entry of a class
pub count_at : (count : GroupEntry → ℕ) (groups : List (Option GroupEntry)) (class : ℕ) → IsClass class
    → slice_index (count_by_class count groups) (class_index class) ≡ class_count count groups class
unfolding count_by_class class_index
count_at count groups class is = rows_at (class_count count groups) class table (class_row class is)

count_set : (count : GroupEntry → ℕ) (old new : List (Option GroupEntry)) (class : ℕ)
    → ((c : ℕ) → c ≢ class → class_count count new c ≡ class_count count old c)
    → count_by_class count new ≡ slice_set (count_by_class count old) (class_index class) (class_count count new class)
unfolding count_by_class class_index
count_set count old new class others = rows_one (class_count count old) (class_count count new) class table table_apart others

-- the counts stay where as much is added as is taken
pub count_stays : (count : GroupEntry → ℕ) (old new : List (Option GroupEntry)) (class n : ℕ) → Shifts count old new class n n
    → count_by_class count new ≡ count_by_class count old
unfolding count_by_class
count_stays count old new class n shift = rows_same (class_count count old) (class_count count new) table (λ c. elim (eqb_tells c class) [
  | inl same ↦ rw same.1 (let here = shift.here in omega (arith, here))
  | inr other ↦ shift.others c other.1
])

module _ (count : GroupEntry → ℕ) (old new : List (Option GroupEntry)) (class : ℕ) (counts : List ℕ) (is : IsClass class)
    (were : counts ≡ count_by_class count old) where
  entry_is : slice_index counts (class_index class) ≡ class_count count old class
  entry_is = ap (λ (xs : List ℕ). slice_index xs (class_index class)) were ∙ count_at count old class is

  entry_set : (n : ℕ) → n ≡ class_count count new class → ((c : ℕ) → c ≢ class → class_count count new c ≡ class_count count old c)
      → slice_set counts (class_index class) n ≡ count_by_class count new
  entry_set n now others = ap (λ (xs : List ℕ). slice_set xs (class_index class) n) were ∙ ap (slice_set (count_by_class count old) (class_index class)) now
      ∙ sym (count_set count old new class others)

  -- the entry of the class rises, or falls
  pub count_rises : (n : ℕ) → Shifts count old new class n 0
      → slice_set counts (class_index class) (slice_index counts (class_index class) + n) ≡ count_by_class count new
  count_rises n shift = entry_set (slice_index counts (class_index class) + n)
      (let here = shift.here in let entry = entry_is in omega (arith, here, entry)) shift.others

  pub count_falls : (n : ℕ) → Shifts count old new class 0 n
      → slice_set counts (class_index class) (slice_index counts (class_index class) - n) ≡ count_by_class count new
  count_falls n shift = entry_set (slice_index counts (class_index class) - n)
      (let here = shift.here in let entry = entry_is in omega (arith, here, entry)) shift.others

  -- there is as much as is taken
  pub count_falls_within : (n : ℕ) → Shifts count old new class 0 n → n ≤ slice_index counts (class_index class)
  count_falls_within n shift = let here = shift.here in let entry = entry_is in omega (arith, here, entry)

-- a group is of a class
abbrev pub IsOfClass : ℕ → Option GroupEntry → Type 0
IsOfClass class None = Unit {0}
IsOfClass class (Some group) = group.class ≡ class

counted_here : (count : GroupEntry → ℕ) (class : ℕ) (o : Option GroupEntry) → IsOfClass class o → counted_for count class o ≡ amount count o
counted_here count class None of = refl
counted_here count class (Some group) of = rw (eq-eqb group.class class of) refl

counted_elsewhere : (count : GroupEntry → ℕ) (class c : ℕ) (o : Option GroupEntry) → IsOfClass class o → c ≢ class → counted_for count c o ≡ 0
counted_elsewhere count class c None of other = refl
counted_elsewhere count class c (Some group) of other = rw (ne_eqb group.class c (λ same. other (sym same ∙ of))) refl

-- one group of the class is replaced
pub shift_set : (count : GroupEntry → ℕ) (groups : List (Option GroupEntry)) (n class : ℕ) (x y : Option GroupEntry) → n < length groups → group_at groups n ≡ x
    → IsOfClass class x → IsOfClass class y → Shifts count groups (slice_set groups n y) class (amount count y) (amount count x)
shift_set count groups n class x y below there of of' = record {
  here =
      let sum = sum_by-set (counted_for count class) groups n y None below in
      let was : counted_for count class (group_at groups n) ≡ amount count x = ap (counted_for count class) there ∙ counted_here count class x of in
      let now = counted_here count class y of' in omega (arith, sum, was, now);
  others = λ c other.
      let sum = sum_by-set (counted_for count c) groups n y None below in
      let was : counted_for count c (group_at groups n) ≡ 0 = ap (counted_for count c) there ∙ counted_elsewhere count class c x of other in
      let now = counted_elsewhere count class c y of' other in omega (arith, sum, was, now);
}

-- one is added
pub shift_push : (count : GroupEntry → ℕ) (groups : List (Option GroupEntry)) (class : ℕ) (y : Option GroupEntry) → IsOfClass class y
    → Shifts count groups (groups ++ y ∷ []) class (amount count y) 0
shift_push count groups class y of = record {
  here = let sum = sum_by_push (counted_for count class) groups y in let now = counted_here count class y of in omega (arith, sum, now);
  others = λ c other. let sum = sum_by_push (counted_for count c) groups y in let now = counted_elsewhere count class c y of other in omega (arith, sum, now);
}

-- one change after another
pub shift_both : (count : GroupEntry → ℕ) (old mid new : List (Option GroupEntry)) (class up down up' down' : ℕ) → Shifts count old mid class up down
    → Shifts count mid new class up' down' → Shifts count old new class (up + up') (down + down')
shift_both count old mid new class up down up' down' first second = record {
  here = let a = first.here in let b = second.here in omega (arith, a, b);
  others = λ c other. second.others c other ∙ first.others c other;
}

-- what is added and taken may be written otherwise
pub shift_as : (count : GroupEntry → ℕ) (old new : List (Option GroupEntry)) (class up down up' down' : ℕ) → Shifts count old new class up down
    → up + down' ≡ up' + down → Shifts count old new class up' down'
shift_as count old new class up down up' down' shift same = record {
  here = let here = shift.here in omega (arith, here, same);
  others = shift.others;
}

-- the objects of a group with another entry in a slot
abbrev one_of : Option Slot → ℕ
one_of o = if is_some o then 1 else 0

pub objects_set : (slots : List (Option Slot)) (k : ℕ) (was entry : Option Slot) → slice_get slots k ≡ Some was
    → count_by is_some (slice_set slots k entry) + one_of was ≡ count_by is_some slots + one_of entry
objects_set slots k was entry filled =
    let sum = sum_by-set one_of slots k entry None (slice_get_within slots k was filled) in
    let old = ap one_of (get_or_from_slice_get slots k was None filled) in omega (arith, sum, old)

-- the objects of two groups with no common occupied slot
pub objects_united : (xs ys : List (Option Slot)) → length xs ≡ length ys → do_overlap xs ys ≡ false
    → count_by is_some (united ys xs) ≡ count_by is_some ys + count_by is_some xs
objects_united xs ys long apart = sym (sum_united one_of refl xs ys long apart)
