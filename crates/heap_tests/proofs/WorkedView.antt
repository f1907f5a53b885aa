-- A view of four candidates whose numbers are their places.
use Rattle.std.proofs.Common.{◌≡◌, ℕ, zero, suc, ◌<◌, ◌≤◌, false, nat_eq, List, [], ◌∷◌, IsSome, find, length, refl, arith, inl, inr}
use Rattle.std.proofs.lemmas.Bool.Decides.{eqb_tells}
use Rattle.std.proofs.lemmas.List.Elements.{All-cons, All-nil}
use Rattle.model_search.specs.Search.{Candidate, View}
use Rattle.model_heap.specs.Sound.{times_in}
use Rattle.mesh_search.specs.Views.{AreNamed, candidate_at, is_numbered}

-- the numbers of four candidates are their places
record AreFour (a b c d : Candidate) : Type 0 where
  first : a.number ≡ 0
  second : b.number ≡ 1
  third : c.number ≡ 2
  fourth : d.number ≡ 3

missed : (m n : ℕ) → m < n → nat_eq m n ≡ false
missed m n h = elim (eqb_tells m n) [ inl same ↦ absurd (let e = same.1 in omega (arith, e, h)) | inr apart ↦ apart.0 ]

once : (n : ℕ) → times_in n (2 ∷ 0 ∷ 3 ∷ 1 ∷ []) ≤ 1
once zero = omega arith
once (suc zero) = omega arith
once (suc (suc zero)) = omega arith
once (suc (suc (suc zero))) = omega arith
once (suc (suc (suc (suc n)))) =
    let m : ℕ = suc (suc (suc (suc n))) in rw (missed 2 m (omega arith), missed 0 m (omega arith), missed 3 m (omega arith), missed 1 m (omega arith)) (omega arith)

-- the number is a candidate's
abbrev IsIn : List Candidate → ℕ → Type 0
IsIn cs n = IsSome (find (is_numbered n) cs)

-- each of the four is named once
are_named : (class : ℕ) (a b c d : Candidate) → AreFour a b c d
    → AreNamed (record { class = class; candidates = a ∷ b ∷ c ∷ d ∷ [] }) (2 ∷ 0 ∷ 3 ∷ 1 ∷ [])
are_named class a b c d four =
    let cs : List Candidate = a ∷ b ∷ c ∷ d ∷ [] in
    let at_2 : IsIn cs 2 = rw (four.first, four.second, four.third) refl in
    let at_0 : IsIn cs 0 = rw four.first refl in
    let at_3 : IsIn cs 3 = rw (four.first, four.second, four.third, four.fourth) refl in
    let at_1 : IsIn cs 1 = rw (four.first, four.second) refl in record {
      each = All-cons (IsIn cs) 2 (0 ∷ 3 ∷ 1 ∷ []) at_2 (All-cons (IsIn cs) 0 (3 ∷ 1 ∷ []) at_0
          (All-cons (IsIn cs) 3 (1 ∷ []) at_3 (All-cons (IsIn cs) 1 [] at_1 (All-nil (IsIn cs)))));
      once = once;
    }

named_in : (class : ℕ) (cs : List Candidate) → length cs ≡ 4
    → (candidate_at (record { class = class; candidates = cs }) 0).number ≡ 0
    → (candidate_at (record { class = class; candidates = cs }) 1).number ≡ 1
    → (candidate_at (record { class = class; candidates = cs }) 2).number ≡ 2
    → (candidate_at (record { class = class; candidates = cs }) 3).number ≡ 3
    → AreNamed (record { class = class; candidates = cs }) (2 ∷ 0 ∷ 3 ∷ 1 ∷ [])
named_in class (a ∷ b ∷ c ∷ d ∷ []) e first second third fourth =
    are_named class a b c d (record { first = first; second = second; third = third; fourth = fourth })
named_in class [] e first second third fourth = absurd (omega (arith, e))
named_in class (a ∷ []) e first second third fourth = absurd (omega (arith, e))
named_in class (a ∷ b ∷ []) e first second third fourth = absurd (omega (arith, e))
named_in class (a ∷ b ∷ c ∷ []) e first second third fourth = absurd (omega (arith, e))
named_in class (a ∷ b ∷ c ∷ d ∷ f ∷ rest) e first second third fourth = absurd (omega (arith, e))

-- a view of four candidates whose numbers are their places
pub four_are_named : (view : View) → length view.candidates ≡ 4
    → (candidate_at view 0).number ≡ 0 → (candidate_at view 1).number ≡ 1 → (candidate_at view 2).number ≡ 2 → (candidate_at view 3).number ≡ 3
    → AreNamed view (2 ∷ 0 ∷ 3 ∷ 1 ∷ [])
four_are_named view = named_in view.class view.candidates
