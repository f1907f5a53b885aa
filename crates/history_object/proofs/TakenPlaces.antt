-- The places of the elements that pass a test, and the numbers of calls.
use Rattle.std.proofs.Common.{◌≡◌, ℕ, zero, suc, ◌+◌, inl, inr, Bool, true, false, ◌||◌, if◌then◌else◌, nat_eq, List, [], ◌∷◌, Some, slice_get, ap, subst, refl, sym, ◌∙◌, arith}
use Rattle.std.specs.List.{filter}
use Rattle.std.specs.List.Sorted.{IsPermutation}
use Rattle.std.proofs.lemmas.Bool.Decides.{eqb_tells}
use Rattle.std.proofs.lemmas.List.Sorted.{IsPermutation-sym}
use Rattle.history_object.specs.Carried.{IsKept}
use Rattle.history_object.specs.Orders.{IsEachOnce, IsIn}
use Rattle.history_object.specs.OrderedJudges.{numbers_of}
use Rattle.history_object.specs.TimedCalls.{Timed}
use Rattle.history_object.proofs.Listed.{AreAt}
use Rattle.history_object.proofs.Lists.{tells}
use Rattle.history_object.proofs.Moved.{is_moved}

-- whether the number is in the list
abbrev pub is_in : ℕ → List ℕ → Bool
is_in n [] = false
is_in n (m ∷ ms) = nat_eq m n || is_in n ms

pub is_in_if : (n : ℕ) (ms : List ℕ) → IsIn n ms → is_in n ms ≡ true
is_in_if n [] at = absurd at
is_in_if n (m ∷ ms) at = elim (eqb_tells m n) [
  | inl same ↦ rw (same.0) refl
  | inr other ↦ elim at [ inl same ↦ absurd (other.1 same) | inr later ↦ rw (other.0) (is_in_if n ms later) ]
]

pub in_if_is : (n : ℕ) (ms : List ℕ) → is_in n ms ≡ true → IsIn n ms
in_if_is n [] is = cc is
in_if_is n (m ∷ ms) is = elim (eqb_tells m n) [
  | inl same ↦ inl same.1
  | inr other ↦ inr (in_if_is n ms (rw (other.0) at is))
]

-- ---- the places of the elements that pass a test

module _ {X : Type 0} (test : X → Bool) where
  -- the places, if the first element of the list has place `k`
  abbrev pub places_from : ℕ → List X → List ℕ
  places_from k [] = []
  places_from k (x ∷ xs) = if test x then k ∷ places_from (suc k) xs else places_from (suc k) xs

  pub passing_at : (ys xs : List X) (k : ℕ) → ((i j : ℕ) → j ≡ k + i → slice_get xs i ≡ slice_get ys j) → AreAt ys (places_from k xs) (filter test xs)
  passing_at ys [] k is = tt
  passing_at ys (x ∷ xs) k is =
      let rest = passing_at ys xs (suc k) (λ i j e. is (suc i) j (omega (arith, e))) in
      elim (tells (test x)) [
        | inl passes ↦ rw passes (sym (is 0 k (omega arith)), rest)
        | inr fails ↦ rw fails rest
      ]

  -- a place of the list at which the element passes
  pub record IsPassing (k n : ℕ) (xs : List X) : Type 0 where
    pub at : ℕ
    pub is : n ≡ k + at
    pub element : X
    pub there : slice_get xs at ≡ Some element
    pub passes : test element ≡ true

  pub is_passing : (xs : List X) (k n : ℕ) → IsIn n (places_from k xs) → IsPassing k n xs
  is_passing [] k n at = absurd at
  is_passing (x ∷ xs) k n at = elim (tells (test x)) [
    | inl passes ↦ (let at' : IsIn n (k ∷ places_from (suc k) xs) = rw passes at at in elim at' [
      | inl same ↦ record { at = 0; is = omega (arith, same); element = x; there = refl; passes = passes }
      | inr later ↦ on (is_passing xs (suc k) n later)
    ])
    | inr fails ↦ (let at' : IsIn n (places_from (suc k) xs) = rw fails at at in on (is_passing xs (suc k) n at'))
  ]
    where
      on : IsPassing (suc k) n xs → IsPassing k n (x ∷ xs)
      on h = record { at = suc h.at; is = (let e = h.is in omega (arith, e)); element = h.element; there = h.there; passes = h.passes }

  pub passing_once : (xs : List X) (k : ℕ) → IsEachOnce (places_from k xs)
  passing_once [] k = tt
  passing_once (x ∷ xs) k = elim (tells (test x)) [
    | inl passes ↦ rw passes ((λ at. let h = is_passing xs (suc k) k at in let e = h.is in omega (arith, e)), passing_once xs (suc k))
    | inr fails ↦ rw fails (passing_once xs (suc k))
  ]

  pub passing_in : (xs : List X) (k i n : ℕ) (x : X) → n ≡ k + i → slice_get xs i ≡ Some x → test x ≡ true → IsIn n (places_from k xs)
  passing_in [] k zero n x is there passes = cc there
  passing_in [] k (suc i) n x is there passes = cc there
  passing_in (y ∷ xs) k zero n x is there passes =
      let same : y ≡ x = cc there in
      let passes' : test y ≡ true = ap test same ∙ passes in
      rw passes' (inl (omega (arith, is)))
  passing_in (y ∷ xs) k (suc i) n x is there passes =
      let later = passing_in xs (suc k) i n x (omega (arith, is)) there passes in
      elim (tells (test y)) [ inl first ↦ rw first (inr later) | inr not ↦ rw not later ]

  -- the elements that pass are elements
  pub among : (xs : List X) (x : X) → IsKept (filter test xs) x → IsKept xs x × (test x ≡ true)
  among [] x (zero, at) = cc at
  among [] x (suc i, at) = cc at
  among (y ∷ xs) x kept = elim (tells (test y)) [
    | inl passes ↦ (let kept' : IsKept (y ∷ filter test xs) x = rw passes at kept in first (λ i at. among xs x (i, at)) kept' passes)
    | inr fails ↦ (let kept' : IsKept (filter test xs) x = rw fails at kept in let rest = among xs x kept' in ((suc rest.0.0, rest.0.1), rest.1))
  ]
    where
      first : ((i : ℕ) → slice_get (filter test xs) i ≡ Some x → IsKept xs x × (test x ≡ true)) → IsKept (y ∷ filter test xs) x → test y ≡ true
          → IsKept (y ∷ xs) x × (test x ≡ true)
      first later (zero, at) passes = (let same : y ≡ x = cc at in ((0, at), ap test (sym same) ∙ passes))
      first later (suc i, at) passes = let rest = later i at in ((suc rest.0.0, rest.0.1), rest.1)

  pub kept_passes : (xs : List X) (x : X) → IsKept xs x → test x ≡ true → IsKept (filter test xs) x
  kept_passes [] x (zero, at) passes = cc at
  kept_passes [] x (suc i, at) passes = cc at
  kept_passes (y ∷ xs) x (zero, at) passes =
      let same : y ≡ x = cc at in
      let passes' : test y ≡ true = ap test same ∙ passes in
      rw passes' (0, at)
  kept_passes (y ∷ xs) x (suc i, at) passes =
      let rest = kept_passes xs x (i, at) passes in
      elim (tells (test y)) [ inl first ↦ rw first (suc rest.0, rest.1) | inr not ↦ rw not rest ]

-- ---- calls whose numbers differ

-- calls at two places have two numbers
abbrev pub HaveOwn : {C : Type 0} → List (Timed C) → Type 0
HaveOwn {C} calls = (i j : ℕ) (a b : Timed C) → slice_get calls i ≡ Some a → slice_get calls j ≡ Some b → a.number ≡ b.number → i ≡ j

number_kept : {C : Type 0} → (calls : List (Timed C)) (n : ℕ) → IsIn n (numbers_of calls) → (i : ℕ) × (x : Timed C) × (slice_get calls i ≡ Some x) × (x.number ≡ n)
number_kept [] n at = absurd at
number_kept (x ∷ calls) n at = elim at [
  | inl same ↦ (0, x, refl, same)
  | inr later ↦ (let rest = number_kept calls n later in (suc rest.0, rest.1, rest.2, rest.3))
]

pub kept_number : {C : Type 0} → (calls : List (Timed C)) (i : ℕ) (x : Timed C) → slice_get calls i ≡ Some x → IsIn x.number (numbers_of calls)
kept_number [] zero x at = cc at
kept_number [] (suc i) x at = cc at
kept_number {C} (y ∷ calls) zero x at = (let same : y ≡ x = cc at in inl (ap (λ (z : Timed C). z.number) same))
kept_number (y ∷ calls) (suc i) x at = inr (kept_number calls i x at)

pub own_once : {C : Type 0} → (calls : List (Timed C)) → HaveOwn calls → IsEachOnce (numbers_of calls)
own_once [] own = tt
own_once (x ∷ calls) own = (
  λ at. (let again = number_kept calls x.number at in let same = own 0 (suc again.0) x again.1 refl again.2 (sym again.3) in omega (arith, same)),
  own_once calls (λ i j a b at_i at_j same. let e = own (suc i) (suc j) a b at_i at_j same in omega (arith, e)),
)

once_own : {C : Type 0} → (calls : List (Timed C)) → IsEachOnce (numbers_of calls) → HaveOwn calls
once_own [] once zero j a b at_i at_j same = cc at_i
once_own [] once (suc i) j a b at_i at_j same = cc at_i
once_own (x ∷ calls) once zero zero a b at_i at_j same = refl
once_own {C} (x ∷ calls) once zero (suc j) a b at_i at_j same = absurd (
    let first : x ≡ a = cc at_i in
    once.0 (subst (λ (n : ℕ). IsIn n (numbers_of calls)) (sym same ∙ ap (λ (z : Timed C). z.number) (sym first)) (kept_number calls j b at_j)))
once_own {C} (x ∷ calls) once (suc i) zero a b at_i at_j same = absurd (
    let first : x ≡ b = cc at_j in
    once.0 (subst (λ (n : ℕ). IsIn n (numbers_of calls)) (same ∙ ap (λ (z : Timed C). z.number) (sym first)) (kept_number calls i a at_i)))
once_own (x ∷ calls) once (suc i) (suc j) a b at_i at_j same = ap suc (once_own calls once.1 i j a b at_i at_j same)

once_passing : {C : Type 0} → (test : Timed C → Bool) (calls : List (Timed C)) → IsEachOnce (numbers_of calls) → IsEachOnce (numbers_of (filter test calls))
once_passing test [] once = tt
once_passing test (x ∷ calls) once = elim (tells (test x)) [
  | inl passes ↦ rw passes ((λ at. once.0 (still at)), once_passing test calls once.1)
  | inr fails ↦ rw fails (once_passing test calls once.1)
]
  where
    still : IsIn x.number (numbers_of (filter test calls)) → IsIn x.number (numbers_of calls)
    still at =
        let found = number_kept (filter test calls) x.number at in
        let kept = (among test calls found.1 (found.0, found.2)).0 in
        subst (λ (n : ℕ). IsIn n (numbers_of calls)) found.3 (kept_number calls kept.0 found.1 kept.1)

-- of the calls that pass a test, in any order, no two have one number
pub own_in_order : {C : Type 0} → (test : Timed C → Bool) (calls order : List (Timed C)) → HaveOwn calls → IsPermutation order (filter test calls)
    → IsEachOnce (numbers_of order)
own_in_order {C} test calls order own same =
    let moved = is_moved (filter test calls) order (IsPermutation-sym order (filter test calls) same) in
    let apart = once_own (filter test calls) (once_passing test calls (own_once calls own)) in
    own_once order (λ i j a b at_i at_j number.
    sym (moved.back i) ∙ ap moved.from (apart (moved.to i) (moved.to j) a b (sym (moved.there i) ∙ at_i) (sym (moved.there j) ∙ at_j) number) ∙ moved.back j)
