-- A view made of the groups of the index, one after another.
use Rattle.std.proofs.Common.{◌≡◌, ℕ, zero, suc, ◌+◌, ◌<◌, ◌≤◌, Bool, true, false, ◌&&◌, not, nat_eq, nat_le, nat_lt, List, [], ◌∷◌, ◌++◌, Option, Some, length, map, filter, if◌then◌else◌, slice_index_or, count_by, is_some, ap, refl, sym, ◌∙◌, arith, inl, inr}
use Rattle.std.proofs.lemmas.Bool.Decides.{eqb_tells, leb_tells}
use Rattle.std.proofs.lemmas.Bool.{true≢false}
use Rattle.std.proofs.lemmas.List.{append_assoc, length-map, length-append}
use Rattle.std.proofs.lemmas.List.Sums.{sum_by-cons}
use Rattle.std.proofs.lemmas.List.Elements.{All-append, All-cons, All-nil}
use Rattle.mesh_bits.specs.Bits.{member_count}
use Rattle.model_words.specs.Classes.{slots_of}
use Rattle.model_search.specs.Search.{Candidate, candidate_of, may_be_paired}
use Rattle.model_heap.specs.Table.{Group, Slot}
use Rattle.mesh_search.specs.Views.{IsCandidate, IsView, no_candidate}
use Rattle.mesh_spans.specs.GroupBins.{candidate_from, is_partial}
use Rattle.mesh_spans.specs.Index.{GroupEntry, IsGroup}

-- the candidates' numbers are below a bound
abbrev pub AreBelow : List Candidate → ℕ → Type 0
AreBelow candidates bound = (j : ℕ) → j < length candidates → (slice_index_or candidates j no_candidate).number < bound

-- an element of a longer list
before_last : (xs : List Candidate) (x : Candidate) (j : ℕ) → j < length xs → slice_index_or (xs ++ x ∷ []) j no_candidate ≡ slice_index_or xs j no_candidate
before_last [] x j h = absurd (omega (arith, h))
before_last (y ∷ ys) x zero h = refl
before_last (y ∷ ys) x (suc j) h = before_last ys x j (omega (arith, h))

at_last : (xs : List Candidate) (x : Candidate) (j : ℕ) → j ≡ length xs → slice_index_or (xs ++ x ∷ []) j no_candidate ≡ x
at_last [] x zero e = refl
at_last [] x (suc j) e = absurd (omega (arith, e))
at_last (y ∷ ys) x zero e = absurd (omega (arith, e))
at_last (y ∷ ys) x (suc j) e = at_last ys x j (omega (arith, e))

-- the bound goes up with a candidate more
pub below_more : (xs : List Candidate) (x : Candidate) (from : ℕ) → AreBelow xs from → from ≤ x.number → AreBelow (xs ++ x ∷ []) (x.number + 1)
below_more xs x from below above j h =
    elim (leb_tells (suc j) (length xs)) [
      | inl l ↦ let low = l.1 in rw (before_last xs x j low) (let b = below j low in omega (arith, b, above))
      | inr l ↦ let high = l.1 in rw (at_last xs x j (omega (arith, high, h, length-append xs (x ∷ [])))) (omega arith)
    ]

-- a view goes on with a candidate above it
pub view_more : (class from : ℕ) (xs : List Candidate) (x : Candidate) → IsView (record { class = class; candidates = xs }) → AreBelow xs from → length xs ≤ from
    → from ≤ x.number → x.number < 65536 → IsCandidate class x → IsView (record { class = class; candidates = xs ++ x ∷ [] })
view_more class from xs x view below few above fits is =
    let long : length (xs ++ x ∷ []) ≡ length xs + 1 = length-append xs (x ∷ []) in record {
      few = omega (arith, long, few, above, fits);
      each = All-append (IsCandidate class) xs (x ∷ []) view.each (All-cons (IsCandidate class) x [] is (All-nil (IsCandidate class)));
      ascending = λ j k h g. elim (leb_tells (suc k) (length xs)) [
        | inl l ↦ let low = l.1 in rw (before_last xs x j (omega (arith, h, low)), before_last xs x k low) (view.ascending j k h low)
        | inr l ↦
            let inside : j < length xs = omega (arith, h, g, long) in
            rw (before_last xs x j inside, at_last xs x k (omega (arith, l.1, g, long))) (let b = below j inside in omega (arith, b, above))
      ];
    }

-- no candidate is a view
pub no_view : (class : ℕ) → IsView (record { class = class; candidates = [] })
no_view class = record {
  few = omega arith;
  each = All-nil (IsCandidate class);
  ascending = λ j k h g. absurd (omega (arith, g));
}

count_filled : (slots : List (Option Slot)) → member_count (map is_some slots) ≡ count_by is_some slots
count_filled [] = refl
count_filled (x ∷ slots) =
    sum_by-cons (λ (b : Bool). if b then 1 else 0) (is_some x) (map is_some slots) ∙ ap (λ (n : ℕ). (if is_some x then 1 else 0) + n) (count_filled slots)
    ∙ sym (sum_by-cons (λ (y : Option Slot). if is_some y then 1 else 0) x slots)

is_less : (a b : ℕ) → nat_lt a b ≡ true → a < b
is_less a b is = elim (leb_tells (suc a) b) [ inl l ↦ l.1 | inr l ↦ absurd (true≢false (sym is ∙ l.0)) ]

all_parts : (a b c d : Bool) → (a && b && c && d) ≡ true → (a ≡ true) × (c ≡ true) × (d ≡ true)
all_parts true true true true h = (refl, refl, refl)
all_parts false b c d h = absurd (cc h)
all_parts true false c d h = absurd (cc h)
all_parts true true false d h = absurd (cc h)
all_parts true true true false h = absurd (cc h)

-- a partly filled group of the class in the index is a candidate
pub partial_is : (class number : ℕ) (group : GroupEntry) → IsGroup group → is_partial (Some group) class ≡ true
    → IsCandidate class (record { number = number; occupied = map is_some group.slots })
partial_is class number group sound is =
    let class_is : Bool = nat_eq group.class class in
    let some : Bool = nat_lt 0 (count_by is_some group.slots) in
    let room : Bool = nat_lt (count_by is_some group.slots) (length group.slots) in
    let tests : (class_is ≡ true) × (some ≡ true) × (room ≡ true) = all_parts class_is (not group.in_mesh) some room is in
    let same : group.class ≡ class = (elim (eqb_tells group.class class) [ inl l ↦ l.1 | inr l ↦ absurd (true≢false (sym tests.0 ∙ l.0)) ]) in
    let count = count_filled group.slots in
    let slots : length group.slots ≡ slots_of class = sound.slots ∙ ap slots_of same in
    let high = is_less (count_by is_some group.slots) (length group.slots) tests.2 in record {
      width = (length-map group.slots is_some) ∙ slots;
      some = omega (arith, is_less 0 (count_by is_some group.slots) tests.1, count);
      room = omega (arith, high, count, slots);
    }

pub candidate_is : (x : Candidate) (number : ℕ) (occupied : List Bool) → x.number ≡ number → x.occupied ≡ occupied
    → x ≡ record { number = number; occupied = occupied }
candidate_is x number occupied e f =
    ap (λ (n : ℕ). record { number = n; occupied = x.occupied }) e ∙ ap (λ (set : List Bool). record { number = number; occupied = set }) f

-- what has come and what is left are all candidates, with one more that has come
pub all_more : (all xs : List Candidate) (x : Candidate) (group : Group) (rest later : List Group) → x ≡ candidate_of group
    → xs ++ map candidate_of rest ≡ all → rest ≡ group ∷ later → (xs ++ x ∷ []) ++ map candidate_of later ≡ all
all_more all xs x group rest later is whole next =
    append_assoc xs (x ∷ []) (map candidate_of later) ∙ ap (λ (c : Candidate). xs ++ c ∷ map candidate_of later) is
    ∙ ap (λ (gs : List Group). xs ++ map candidate_of gs) (sym next) ∙ whole

-- the candidates from number 0 on are all
pub from_zero : (closed : ℕ → Bool) (class : ℕ) (groups : List Group) → filter (candidate_from closed class 0) groups ≡ filter (may_be_paired closed class) groups
from_zero closed class [] = refl
from_zero closed class (group ∷ groups) =
    let low : nat_le 0 group.number ≡ true = (elim (leb_tells 0 group.number) [ inl l ↦ l.0 | inr l ↦ absurd (let h = l.1 in omega (arith, h)) ]) in
    rw (low, from_zero closed class groups) refl
