-- Which groups of a table a search may pair.
use Rattle.std.proofs.Common.{◌≡◌, ℕ, zero, suc, ◌+◌, ◌<◌, ◌≤◌, Bool, true, false, cond, not, ◌&&◌, is_some, nat_eq, nat_lt, List, [], ◌∷◌, length, map, filter, find, count_by, slice_get, ap, subst, refl, sym, ◌∙◌, arith, inl, inr, Option, Some, None}
use Rattle.std.proofs.lemmas.Bool.Decides.{eqb_tells, leb_tells}
use Rattle.std.proofs.lemmas.List.Sums.{sum_by-cons}
use Rattle.model_heap.proofs.GroupLists.{ascend_filtered, find_number, find_sound}
use Rattle.model_words.proofs.Tests.{tells, both_hold, equal, less, negated}
use Rattle.model_heap.proofs.ListPlaces.{found_passes}
use Rattle.model_heap.proofs.NewPlaces.{at_from}
use Rattle.model_heap.proofs.LowestSteps.{of_mesh, of_no_mesh}
use Rattle.model_words.specs.Classes.{slots_of}
use Rattle.model_search.specs.Search.{Candidate, candidate_of, is_candidate, view_of}
use Rattle.model_search.specs.SearchLaws.{IsCandidateOf}
use Rattle.model_heap.specs.Sound.{AscendBetween, IsSound}
use Rattle.model_heap.specs.Table.{Group, Slot, Table, has_number, is_meshing, object_count}

-- one more slot in front
count_more : (x : Option Slot) (slots : List (Option Slot)) → count_by is_some (x ∷ slots) ≡ cond (is_some x) 1 0 + count_by is_some slots
count_more x slots = sum_by-cons (λ o. cond (is_some o) 1 0) x slots

-- an occupied slot is counted
filled_counted : (slots : List (Option Slot)) (k : ℕ) → slice_get (map is_some slots) k ≡ Some true → 1 ≤ count_by is_some slots
filled_counted [] k h = absurd (cc)
filled_counted (None ∷ slots) zero h = absurd (cc)
filled_counted (Some x ∷ slots) zero h = let more = count_more (Some x) slots in omega (arith, more)
filled_counted (x ∷ slots) (suc k) h = let more = count_more x slots in let rest = filled_counted slots k h in omega (arith, more, rest)

-- where some are counted one is occupied
counted_filled : (slots : List (Option Slot)) → 1 ≤ count_by is_some slots → (k : ℕ) × (slice_get (map is_some slots) k ≡ Some true)
counted_filled [] h = absurd (omega (arith, h))
counted_filled (Some x ∷ slots) h = (0, refl)
counted_filled (None ∷ slots) h = let more = count_more None slots in let rest = counted_filled slots (omega (arith, h, more)) in (suc rest.0, rest.1)

-- no more are counted than there are
count_few : (slots : List (Option Slot)) → count_by is_some slots ≤ length slots
count_few [] = omega arith
count_few (None ∷ slots) = let more = count_more None slots in let rest = count_few slots in omega (arith, more, rest)
count_few (Some x ∷ slots) = let more = count_more (Some x) slots in let rest = count_few slots in omega (arith, more, rest)

-- a free slot isn't counted
free_uncounted : (slots : List (Option Slot)) (k : ℕ) → slice_get (map is_some slots) k ≡ Some false → count_by is_some slots < length slots
free_uncounted [] k h = absurd (cc)
free_uncounted (None ∷ slots) zero h = let more = count_more None slots in let few = count_few slots in omega (arith, more, few)
free_uncounted (Some x ∷ slots) zero h = absurd (cc)
free_uncounted (None ∷ slots) (suc k) h = let more = count_more None slots in let rest = free_uncounted slots k h in omega (arith, more, rest)
free_uncounted (Some x ∷ slots) (suc k) h = let more = count_more (Some x) slots in let rest = free_uncounted slots k h in omega (arith, more, rest)

-- where not all are counted one is free
uncounted_free : (slots : List (Option Slot)) → count_by is_some slots < length slots → (k : ℕ) × (slice_get (map is_some slots) k ≡ Some false)
uncounted_free [] h = absurd (omega (arith, h))
uncounted_free (None ∷ slots) h = (0, refl)
uncounted_free (Some x ∷ slots) h =
    let more = count_more (Some x) slots in let rest = uncounted_free slots (omega (arith, h, more)) in (suc rest.0, rest.1)

-- a group of ascending ones is found by its number
at_found : (low high : ℕ) (gs : List Group) (i : ℕ) (g : Group) → AscendBetween low gs high → slice_get gs i ≡ Some g → find (has_number g.number) gs ≡ Some g
at_found low high [] i g ascend at = absurd (cc)
at_found low high (x ∷ xs) zero g ascend at = let here : Some x ≡ Some g = at in let same : x ≡ g = cc here in elim (eqb_tells x.number g.number) [
  | inl is ↦ rw is.0 here
  | inr other ↦ absurd (other.1 (ap (λ (y : Group). y.number) same))
]
at_found low high (x ∷ xs) (suc i) g ascend at = elim (eqb_tells x.number g.number) [
  | inl is ↦ let later = at_from (x.number + 1) high xs i g ascend.1 at in let same = is.1 in absurd (omega (arith, later, same))
  | inr other ↦ rw other.0 (at_found (x.number + 1) high xs i g ascend.1 at)
]

-- numbers of ascending groups ascend
numbers_ascend : (low high : ℕ) (gs : List Group) (i j : ℕ) (g h : Group) → AscendBetween low gs high → slice_get gs i ≡ Some g → slice_get gs j ≡ Some h
    → i < j → g.number < h.number
numbers_ascend low high [] i j g h ascend at at' below = absurd (cc)
numbers_ascend low high (x ∷ xs) i zero g h ascend at at' below = absurd (omega (arith, below))
numbers_ascend low high (x ∷ xs) zero (suc j) g h ascend at at' below = let here : Some x ≡ Some g = at in let same : x ≡ g = cc here in
    let number : x.number ≡ g.number = ap (λ (y : Group). y.number) same in
    let later = at_from (x.number + 1) high xs j h ascend.1 at' in omega (arith, later, number)
numbers_ascend low high (x ∷ xs) (suc i) (suc j) g h ascend at at' below =
    numbers_ascend (x.number + 1) high xs i j g h ascend.1 at at' (omega (arith, below))

-- a candidate is of a group
of_group : (gs : List Group) (i : ℕ) (candidate : Candidate) → slice_get (map candidate_of gs) i ≡ Some candidate
    → (g : Group) × (slice_get gs i ≡ Some g) × (candidate_of g ≡ candidate)
of_group [] i candidate h = absurd (cc)
of_group (x ∷ xs) zero candidate h = (x, refl, cc h)
of_group (x ∷ xs) (suc i) candidate h = of_group xs i candidate h

-- a group has its candidate
has_candidate : (gs : List Group) (i : ℕ) (g : Group) → slice_get gs i ≡ Some g → slice_get (map candidate_of gs) i ≡ Some (candidate_of g)
has_candidate [] i g h = absurd (cc)
has_candidate (x ∷ xs) zero g h = let here : Some x ≡ Some g = h in let same : x ≡ g = cc here in ap (λ (y : Group). Some (candidate_of y)) same
has_candidate (x ∷ xs) (suc i) g h = has_candidate xs i g h

-- the first group is kept, or a later one
kept_first : (test : Group → Bool) (x : Group) (xs : List Group) (i : ℕ) (g : Group) → test x ≡ true → slice_get (x ∷ filter test xs) i ≡ Some g
    → ((j : ℕ) (h : Group) → slice_get (filter test xs) j ≡ Some h → (test h ≡ true) × ((k : ℕ) × (slice_get xs k ≡ Some h)))
    → (test g ≡ true) × ((j : ℕ) × (slice_get (x ∷ xs) j ≡ Some g))
kept_first test x xs zero g pass h later = let here : Some x ≡ Some g = h in let same : x ≡ g = cc here in (ap test (sym same) ∙ pass, (0, here))
kept_first test x xs (suc i) g pass h later = let rest = later i g h in (rest.0, (suc rest.1.0, rest.1.1))

-- a group that is kept passes, and was there
kept : (test : Group → Bool) (gs : List Group) (i : ℕ) (g : Group) → slice_get (filter test gs) i ≡ Some g
    → (test g ≡ true) × ((j : ℕ) × (slice_get gs j ≡ Some g))
kept test [] i g h = absurd (cc)
kept test (x ∷ xs) i g h = elim (tells (test x)) [
  | inl pass ↦ let first_kept : slice_get (x ∷ filter test xs) i ≡ Some g = rw pass at h in kept_first test x xs i g pass first_kept (kept test xs)
  | inr off ↦ let later : slice_get (filter test xs) i ≡ Some g = rw off at h in let rest = kept test xs i g later in
      (rest.0, (suc rest.1.0, rest.1.1))
]

-- a group that passes is kept
keeps : (test : Group → Bool) (gs : List Group) (j : ℕ) (g : Group) → slice_get gs j ≡ Some g → test g ≡ true
    → (i : ℕ) × (slice_get (filter test gs) i ≡ Some g)
keeps test [] j g h pass = absurd (cc)
keeps test (x ∷ xs) zero g h pass = let here : Some x ≡ Some g = h in let same : x ≡ g = cc here in
    let first : test x ≡ true = ap test same ∙ pass in (0, rw first here)
keeps test (x ∷ xs) (suc j) g h pass = let rest = keeps test xs j g h pass in elim (tells (test x)) [
  | inl first ↦ (suc rest.0, rw first rest.1)
  | inr off ↦ (rest.0, rw off rest.1)
]

-- what holds of a group that is a candidate
record Passes (t : Table) (class : ℕ) (g : Group) : Type 0 where
  class_is : g.class ≡ class
  outside : is_meshing t g.number ≡ false
  some : 0 < object_count g
  few : object_count g < slots_of class

passes : (t : Table) (class : ℕ) (g : Group) → is_candidate t class g ≡ true → Passes t class g
passes t class g h =
    let last = both_hold (nat_eq g.class class && not (is_meshing t g.number) && nat_lt 0 (object_count g)) (nat_lt (object_count g) (slots_of class)) h in
    let third = both_hold (nat_eq g.class class && not (is_meshing t g.number)) (nat_lt 0 (object_count g)) last.0 in
    let first = both_hold (nat_eq g.class class) (not (is_meshing t g.number)) third.0 in record {
      class_is = equal g.class class first.0;
      outside = negated (is_meshing t g.number) first.1;
      some = less 0 (object_count g) third.1;
      few = less (object_count g) (slots_of class) last.1;
    }

-- such a group is a candidate
is_one : (t : Table) (class : ℕ) (g : Group) → Passes t class g → is_candidate t class g ≡ true
is_one t class g is = elim (eqb_tells g.class class) [
  | inr other ↦ absurd (other.1 is.class_is)
  | inl same ↦ elim (leb_tells 1 (object_count g)) [
    | inr none ↦ let some = is.some in absurd (omega (arith, none.1, some))
    | inl some ↦ elim (leb_tells (suc (object_count g)) (slots_of class)) [
      | inr full ↦ let few = is.few in absurd (omega (arith, full.1, few))
      | inl few ↦ rw (same.0, is.outside, some.0, few.0) refl
    ]
  ]
]

-- a candidate is of a group that may be paired
pub candidate_is : (t : Table) (class i : ℕ) (candidate : Candidate) → IsSound t → slice_get (view_of t class).candidates i ≡ Some candidate
    → IsCandidateOf t class candidate
candidate_is t class i candidate sound h =
    let of = of_group (filter (is_candidate t class) t.groups) i candidate h in
    let at = kept (is_candidate t class) t.groups i of.0 of.1 in
    let is = passes t class of.0 at.0 in
    let there = at_found 0 t.next_span t.groups at.1.0 of.0 sound.numbers at.1.1 in
    let places = (find_sound (has_number of.0.number) t.groups of.0 there sound.groups).places in
    let some = is.some in let few = is.few in
    let class_is = is.class_is in
    let slots : slots_of of.0.class ≡ slots_of class = ap slots_of class_is in
    subst (λ (c : Candidate). IsCandidateOf t class c) of.2 (record {
      group = of.0;
      there = there;
      class_is = class_is;
      outside = of_no_mesh t of.0.number is.outside;
      occupied = refl;
      filled = counted_filled of.0.slots (omega (arith, some));
      free = uncounted_free of.0.slots (omega (arith, few, places, slots));
    })

-- a candidate is its number and its slots
one_candidate : (candidate : Candidate) (n : ℕ) (occupied : List Bool) → n ≡ candidate.number → candidate.occupied ≡ occupied
    → ◌≡◌ {A = Candidate} (record { number = n; occupied = occupied }) candidate
one_candidate candidate n occupied number slots = rw (number, ← slots) refl

-- a group that may be paired has its candidate
pub is_candidate_at : (t : Table) (class : ℕ) (candidate : Candidate) → IsSound t → IsCandidateOf t class candidate
    → (i : ℕ) × (slice_get (view_of t class).candidates i ≡ Some candidate)
is_candidate_at t class candidate sound is =
    let number : is.group.number ≡ candidate.number = find_number candidate.number t.groups is.group is.there in
    let at = found_passes Group (has_number candidate.number) t.groups is.group is.there in
    let places = (find_sound (has_number candidate.number) t.groups is.group is.there sound.groups).places in
    let slots : slots_of is.group.class ≡ slots_of class = ap slots_of is.class_is in
    let some = filled_counted is.group.slots is.filled.0 (ap (λ (bs : List Bool). slice_get bs is.filled.0) (sym is.occupied) ∙ is.filled.1) in
    let few = free_uncounted is.group.slots is.free.0 (ap (λ (bs : List Bool). slice_get bs is.free.0) (sym is.occupied) ∙ is.free.1) in
    let one = keeps (is_candidate t class) t.groups at.0 is.group at.1 (is_one t class is.group (record {
      class_is = is.class_is;
      outside = ap (is_meshing t) number ∙ unmeshed (is_meshing t candidate.number) refl;
      some = omega (arith, some);
      few = omega (arith, few, places, slots);
    })) in
    let same : candidate_of is.group ≡ candidate = one_candidate candidate is.group.number (map is_some is.group.slots) number is.occupied in
    (one.0, has_candidate (filter (is_candidate t class) t.groups) one.0 is.group one.1 ∙ ap Some same)
  where
    unmeshed : (b : Bool) → is_meshing t candidate.number ≡ b → is_meshing t candidate.number ≡ false
    unmeshed true h = absurd (is.outside (of_mesh t candidate.number h))
    unmeshed false h = h

-- the candidates ascend
pub candidates_ascend : (t : Table) (class i j : ℕ) (x y : Candidate) → IsSound t → slice_get (view_of t class).candidates i ≡ Some x
    → slice_get (view_of t class).candidates j ≡ Some y → i < j → x.number < y.number
candidates_ascend t class i j x y sound h h' below =
    let of = of_group (filter (is_candidate t class) t.groups) i x h in let of' = of_group (filter (is_candidate t class) t.groups) j y h' in
    let ascend = numbers_ascend 0 t.next_span (filter (is_candidate t class) t.groups) i j of.0 of'.0
    (ascend_filtered 0 t.next_span (is_candidate t class) t.groups sound.numbers) of.1 of'.1 below in
    let number : of.0.number ≡ x.number = ap (λ (c : Candidate). c.number) of.2 in
    let number' : of'.0.number ≡ y.number = ap (λ (c : Candidate). c.number) of'.2 in omega (arith, ascend, number, number')
