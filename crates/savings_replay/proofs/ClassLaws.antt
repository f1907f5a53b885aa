-- The groups of a class with an object have at least the pages that their objects need.
use Rattle.std.proofs.Common.{◌≡◌, ℕ, ◌+◌, ◌-◌, ◌*◌, ◌/◌, ◌<◌, ◌≤◌, ◌∙◌, if◌then◌else◌, nat_eq, filter, find, is_some, List, [], ◌∷◌, Option, Some, None, ap, subst, refl, arith, inl, inr}
use Rattle.std.specs.Prelude.{sum_by}
use Rattle.std.specs.Option.{option_map_or}
use Rattle.std.proofs.Math.Nat.{div-lt_iff_lt-mul, mul-add, mul-le-mul_right, mul_comm}
use Rattle.std.proofs.lemmas.Bool.Decides.{eqb_tells}
use Rattle.std.proofs.lemmas.List.Sums.{count_by-le-length, sum_by-cons}
use Rattle.model_heap.specs.Sound.{AreSoundGroups, IsSound}
use Rattle.model_heap.specs.Table.{Group, Table, object_count}
use Rattle.model_words.specs.Classes.{Row, pages_of, row_of, slots_of, table}
use Rattle.savings_replay.specs.ClassCounts.{class_objects, held_of, held_pages}
use Rattle.savings_replay.specs.ClassLaws.{FitsPages, pages_needed}

abbrev of_class : ℕ → List Group → List Group
of_class class groups = filter (λ g. nat_eq g.class class) groups

-- 1 for a group with an object, 0 for one without
abbrev is_held : Group → ℕ
is_held g = if nat_eq (object_count g) 0 then 0 else 1

held_times : (objects pages : ℕ) → (if nat_eq objects 0 then 0 else pages) ≡ (if nat_eq objects 0 then 0 else 1) * pages
held_times objects pages = elim (eqb_tells objects 0) [
  | inl none ↦ rw none.0 (omega arith)
  | inr some ↦ rw some.0 (omega arith)
]

held_slots : (objects slots : ℕ) → objects ≤ slots → objects ≤ (if nat_eq objects 0 then 0 else 1) * slots
held_slots objects slots few = elim (eqb_tells objects 0) [
  | inl none ↦ rw none.0 (omega (arith, none.1))
  | inr some ↦ rw some.0 (omega (arith, few))
]

pub times_more : (a b n : ℕ) → (a + b) * n ≡ a * n + b * n
times_more a b n =
    let whole = mul_comm (a + b) n in let parts = mul-add n a b in let left = mul_comm n a in let right = mul_comm n b in
    omega (arith, whole, parts, left, right)

-- each group of the class with an object has the pages of one span
pages_counted : (class : ℕ) (groups : List Group) → sum_by held_of (of_class class groups) ≡ sum_by is_held (of_class class groups) * pages_of class
pages_counted class [] = omega arith
pages_counted class (g ∷ groups) = elim (eqb_tells g.class class) [
  | inl same ↦ rw same.0 (let rest = pages_counted class groups in let one = sum_by-cons held_of g (of_class class groups) in
      let spans = sum_by-cons is_held g (of_class class groups) in let own : held_of g ≡ is_held g * pages_of class = held_times (object_count g) (pages_of g.class)
      ∙ ap (λ (n : ℕ). is_held g * pages_of n) same.1 in
      let both = times_more (is_held g) (sum_by is_held (of_class class groups)) (pages_of class) in
      let all : sum_by is_held (g ∷ of_class class groups) * pages_of class ≡ (is_held g + sum_by is_held (of_class class groups)) * pages_of class
      = ap (λ (n : ℕ). n * pages_of class) spans in omega (arith, rest, one, own, both, all))
  | inr other ↦ rw other.0 (pages_counted class groups)
]

-- and at most an object in each slot of it
objects_counted : (class : ℕ) (groups : List Group) → AreSoundGroups groups
    → sum_by object_count (of_class class groups) ≤ sum_by is_held (of_class class groups) * slots_of class
objects_counted class [] sound = omega arith
objects_counted class (g ∷ groups) sound = elim (eqb_tells g.class class) [
  | inl same ↦ rw same.0 (let rest = objects_counted class groups sound.1 in let one = sum_by-cons object_count g (of_class class groups) in
      let spans = sum_by-cons is_held g (of_class class groups) in
      let slots : slots_of g.class ≡ slots_of class = ap slots_of same.1 in let places = sound.0.places in let few = count_by-le-length is_some g.slots in
      let own = held_slots (object_count g) (slots_of class) (omega (arith, slots, places, few)) in
      let both = times_more (is_held g) (sum_by is_held (of_class class groups)) (slots_of class) in
      let all : sum_by is_held (g ∷ of_class class groups) * slots_of class ≡ (is_held g + sum_by is_held (of_class class groups)) * slots_of class
      = ap (λ (n : ℕ). n * slots_of class) spans in omega (arith, rest, one, own, both, all))
  | inr other ↦ rw other.0 (objects_counted class groups sound.1)
]

-- a class has a slot
abbrev HaveSlots : List Row → Type 0
HaveSlots [] = Unit {0}
HaveSlots (r ∷ rows) = (1 ≤ r.slots) × HaveSlots rows

row_slots : (class : ℕ) (rows : List Row) (r : Row) → HaveSlots rows → find (λ s. nat_eq s.size class) rows ≡ Some r → 1 ≤ r.slots
row_slots class [] r have found = absurd (cc found)
row_slots class (s ∷ rows) r have found = elim (eqb_tells s.size class) [
  | inl same ↦ let is : Some s ≡ Some r = rw same.0 at found in let one : s ≡ r = cc is in subst (λ (x : Row). 1 ≤ x.slots) one have.0
  | inr other ↦ row_slots class rows r have.1 (rw other.0 at found)
]

some_slot : (class : ℕ) (r : Row) → row_of class ≡ Some r → 1 ≤ slots_of class
unfolding slots_of
some_slot class r is =
    let slots : slots_of class ≡ r.slots = ap (λ (o : Option Row). option_map_or (λ r. r.slots) o 0) is in
    let some = row_slots class table r
    (omega arith, (omega arith, (omega arith, (omega arith, (omega arith, (omega arith, (omega arith, (omega arith, (omega arith, (omega arith, tt))))))))))
    is in
    omega (arith, slots, some)

-- no more spans are needed than there are
spans_fit : (objects slots pages spans : ℕ) → 1 ≤ slots → objects ≤ spans * slots → ((objects + slots - 1) / slots) * pages ≤ spans * pages
spans_fit objects slots pages spans some few =
    let less : (objects + slots - 1) / slots < spans + 1 = (div-lt_iff_lt-mul {k = slots} {x = objects + slots - 1} {y = spans + 1} some).1
    (omega (arith, some, few)) in
    mul-le-mul_right pages (omega (arith, less))

pub objects_fit : (t : Table) → IsSound t → FitsPages t
unfolding pages_of
objects_fit t sound class = go (row_of class) refl
  where
    go : (o : Option Row) → row_of class ≡ o → pages_needed class (class_objects t class) ≤ held_pages t class
    go None none =
        let no_pages : pages_of class ≡ 0 = ap (λ (o : Option Row). option_map_or (λ r. r.pages) o 0) none in
        rw no_pages (omega arith)
    go (Some r) is =
        let pages = pages_counted class t.groups in
        rw pages (spans_fit (class_objects t class) (slots_of class) (pages_of class) (sum_by is_held (of_class class t.groups)) (some_slot class r is)
        (objects_counted class t.groups sound.groups))
