-- Numbers of a range that pass a test.
use Rattle.std.proofs.Common.{◌≡◌, ℕ, ap, zero, suc, ◌+◌, ◌<◌, ◌≤◌, Bool, true, false, None, Some, get_or, inl, inr, refl, subst, sym, ◌∙◌, arith}
use Rattle.std.specs.List.{find, list_any, range_with_len}
use Rattle.std.proofs.lemmas.List.FromFn.{get_or-range_with_len, length-range_with_len}
use Rattle.std.proofs.lemmas.List.Folds.{list_any_at}
use Rattle.explore_otherwise.proofs.FirstFindings.{below_next}

-- one number more that doesn't pass
pub none_more : (p : ℕ → Bool) (n : ℕ) (told : Bool) → ((k : ℕ) → k < n → p k ≡ false) → told ≡ p n → told ≡ false
    → (k : ℕ) → k < n + 1 → p k ≡ false
none_more p n told none tells fails k lt = elim (below_next k n lt) [
  | inl less ↦ none k less
  | inr same ↦ subst (λ (m : ℕ). p m ≡ false) (sym same) (sym tells ∙ fails)
]

-- a number that passes is one of a range
pub some_passes : (p : ℕ → Bool) (n k : ℕ) → k < n → p k ≡ true → list_any p (range_with_len 0 n) ≡ true
some_passes p n k lt passes =
    let same : get_or (range_with_len 0 n) k 0 ≡ k = omega (arith, get_or-range_with_len 0 n k 0 lt) in
    list_any_at p (range_with_len 0 n) k 0 (omega (arith, length-range_with_len 0 n, lt))
    (subst (λ (m : ℕ). p m ≡ true) (sym same) passes)

-- if no number passes, none of a range does
pub none_passes : (p : ℕ → Bool) (a n : ℕ) → ((k : ℕ) → k < a + n → p k ≡ false)
    → list_any p (range_with_len a n) ≡ false
none_passes p a zero none = refl
none_passes p a (suc n) none =
    let first : p a ≡ false = none a (omega arith) in
    let rest : list_any p (range_with_len (a + 1) n) ≡ false =
    none_passes p (a + 1) n (λ k lt. none k (omega (arith, lt))) in
    rw first rest

-- if no number passes, none is found in a range
pub none_found : (p : ℕ → Bool) (a n : ℕ) → ((k : ℕ) → k < a + n → p k ≡ false) → find p (range_with_len a n) ≡ None
none_found p a zero none = refl
none_found p a (suc n) none =
    let first : p a ≡ false = none a (omega arith) in
    let rest : find p (range_with_len (a + 1) n) ≡ None = none_found p (a + 1) n (λ k lt. none k (omega (arith, lt))) in
    rw first rest

-- the first number that passes is found in a range
pub first_found : (p : ℕ → Bool) (a n k : ℕ) → a ≤ k → k < a + n → ((j : ℕ) → j < k → p j ≡ false) → p k ≡ true
    → find p (range_with_len a n) ≡ Some k
first_found p a zero k from to none passes = absurd (omega (arith, from, to))
first_found p a (suc n) k from to none passes = elim (below_next a k (omega (arith, from))) [
  | inl less ↦ (
      let first : p a ≡ false = none a less in
      let rest : find p (range_with_len (a + 1) n) ≡ Some k =
      first_found p (a + 1) n k (omega (arith, less)) (omega (arith, to)) none passes in
      rw first rest)
  | inr same ↦ (
      let first : p a ≡ true = subst (λ (m : ℕ). p m ≡ true) (sym same) passes in
      rw first (ap Some same))
]
