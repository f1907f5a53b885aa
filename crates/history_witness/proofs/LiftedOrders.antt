-- An order of what is mapped, as an order of what it is mapped from.
use Rattle.std.proofs.Common.{◌≡◌, ℕ, zero, suc, ◌<◌, inl, inr, Bool, List, [], ◌∷◌, length, map, get_or, set, arith, refl, subst, ◌∙◌, ap}
use Rattle.std.specs.List.{filter, swap}
use Rattle.std.specs.List.Sorted.{IsPermutation}
use Rattle.std.proofs.lemmas.List.{get_or_default}
use Rattle.std.proofs.lemmas.List.Sorted.{IsPermutation-cons, IsPermutation-keeps, IsPermutation-middle, IsPermutation-refl, IsPermutation-trans}
use Rattle.model_intervals.proofs.Lists.{tells}

-- ---- induction over a permutation

module _ {X : Type 0} (P : List X → List X → Type 0) (same : (xs : List X) → P xs xs)
    (under : (x : X) (xs ys : List X) → P xs ys → P (x ∷ xs) (x ∷ ys))
    (flip : (x y : X) (xs : List X) → P (x ∷ y ∷ xs) (y ∷ x ∷ xs))
    (chain : (xs ys zs : List X) → P xs ys → P ys zs → P xs zs) where
  -- exchanging the first element and a later one
  with_first : (x : X) (xs : List X) (j : ℕ) → j < length xs → P (x ∷ xs) (get_or xs j x ∷ set xs j x)
  with_first x [] j below = absurd (omega (arith, below))
  with_first x (y ∷ xs) zero below = flip x y xs
  with_first x (y ∷ xs) (suc j) below =
      let z = get_or xs j x in
      chain (x ∷ y ∷ xs) (y ∷ x ∷ xs) (z ∷ y ∷ set xs j x) (flip x y xs)
      (chain (y ∷ x ∷ xs) (y ∷ z ∷ set xs j x) (z ∷ y ∷ set xs j x) (under y (x ∷ xs) (z ∷ set xs j x) (with_first x xs j (omega (arith, below)))) (flip y z (set xs j x)))

  -- exchanging two elements
  exchanged : (d : X) (xs : List X) (i j : ℕ) → i < length xs → j < length xs → P xs (set (set xs i (get_or xs j d)) j (get_or xs i d))
  exchanged d [] i j at_i at_j = absurd (omega (arith, at_i))
  exchanged d (x ∷ xs) zero zero at_i at_j = same (x ∷ xs)
  exchanged d (x ∷ xs) zero (suc j) at_i at_j =
      subst (λ z. P (x ∷ xs) (z ∷ set xs j x)) (get_or_default xs j x d (omega (arith, at_j))) (with_first x xs j (omega (arith, at_j)))
  exchanged d (x ∷ xs) (suc i) zero at_i at_j =
      subst (λ z. P (x ∷ xs) (z ∷ set xs i x)) (get_or_default xs i x d (omega (arith, at_i))) (with_first x xs i (omega (arith, at_i)))
  exchanged d (x ∷ xs) (suc i) (suc j) at_i at_j =
      under x xs (set (set xs i (get_or xs j d)) j (get_or xs i d)) (exchanged d xs i j (omega (arith, at_i)) (omega (arith, at_j)))

  swapped : (xs : List X) (i j : ℕ) → i < length xs → j < length xs → P xs (swap xs i j)
  swapped [] i j at_i at_j = absurd (omega (arith, at_i))
  swapped (x ∷ xs) i j at_i at_j = exchanged x (x ∷ xs) i j at_i at_j

  -- a reflexive and transitive relation on lists that holds for an exchange of neighbours, also behind a common front
  by_exchanges : (xs ys : List X) → IsPermutation xs ys → P xs ys
  by_exchanges xs ys h = IsPermutation-keeps xs (P xs) (same xs) (λ l i j at_i at_j p. chain xs l (swap l i j) p (swapped l i j at_i at_j)) ys h

-- ---- orders of what passes a test

passing_under : {X : Type 0} (p : X → Bool) (x : X) (xs ys : List X) → IsPermutation (filter p xs) (filter p ys) → IsPermutation (filter p (x ∷ xs)) (filter p (x ∷ ys))
passing_under p x xs ys h = elim (tells (p x)) [
  | inl pass ↦ rw pass (IsPermutation-cons x (filter p xs) (filter p ys) h)
  | inr fail ↦ rw fail h
]

passing_flip : {X : Type 0} (p : X → Bool) (x y : X) (xs : List X) → IsPermutation (filter p (x ∷ y ∷ xs)) (filter p (y ∷ x ∷ xs))
passing_flip p x y xs = elim (tells (p x)) [
  | inl pass ↦ elim (tells (p y)) [
    | inl too ↦ rw (pass, too) (IsPermutation-middle (x ∷ []) y (filter p xs))
    | inr fail ↦ rw (pass, fail) (IsPermutation-refl (x ∷ filter p xs))
  ]
  | inr fail ↦ rw fail (IsPermutation-refl (filter p (y ∷ xs)))
]

-- an order of elements that are mapped to a list. Those that pass the test are in an order too
pub record IsLifted {X Y : Type 0} (f : X → Y) (test : X → Bool) (xs : List X) (ys : List Y) : Type 0 where
  pub from : List X
  pub permuted : IsPermutation from xs
  pub passing : IsPermutation (filter test from) (filter test xs)
  pub maps : map f from ≡ ys

module _ {X Y : Type 0} (f : X → Y) (test : X → Bool) where
  -- what the induction over a permutation needs
  abbrev Lifts : List Y → List Y → Type 0
  Lifts us vs = (xs : List X) → map f xs ≡ us → IsLifted f test xs vs

  lifts_same : (us : List Y) → Lifts us us
  lifts_same us xs is = record { from = xs; permuted = IsPermutation-refl xs; passing = IsPermutation-refl (filter test xs); maps = is }

  lifts_under : (y : Y) (us vs : List Y) → Lifts us vs → Lifts (y ∷ us) (y ∷ vs)
  lifts_under y us vs lifts [] is = cc is
  lifts_under y us vs lifts (x ∷ xs) is =
      let first : f x ≡ y = cc is in
      let rest : map f xs ≡ us = cc is in
      let later = lifts xs rest in record {
        from = x ∷ later.from;
        permuted = IsPermutation-cons x later.from xs later.permuted;
        passing = passing_under test x later.from xs later.passing;
        maps = ap (λ l. f x ∷ l) later.maps ∙ ap (λ z. z ∷ vs) first;
      }

  lifts_flip : (y z : Y) (us : List Y) → Lifts (y ∷ z ∷ us) (z ∷ y ∷ us)
  lifts_flip y z us [] is = cc is
  lifts_flip y z us (x ∷ []) is = cc is
  lifts_flip y z us (x ∷ w ∷ xs) is =
      let first : f x ≡ y = cc is in
      let second : f w ≡ z = cc is in
      let rest : map f xs ≡ us = cc is in record {
        from = w ∷ x ∷ xs;
        permuted = IsPermutation-middle (w ∷ []) x xs;
        passing = passing_flip test w x xs;
        maps = cc (first, second, rest);
      }

  lifts_chain : (us vs ws : List Y) → Lifts us vs → Lifts vs ws → Lifts us ws
  lifts_chain us vs ws front back xs is =
      let first = front xs is in
      let second = back first.from first.maps in record {
        from = second.from;
        permuted = IsPermutation-trans second.from first.from xs second.permuted first.permuted;
        passing = IsPermutation-trans (filter test second.from) (filter test first.from) (filter test xs) second.passing first.passing;
        maps = second.maps;
      }

  -- a permutation of what is mapped
  pub lifted : (xs : List X) (ys : List Y) → IsPermutation (map f xs) ys → IsLifted f test xs ys
  lifted xs ys h = by_exchanges Lifts lifts_same lifts_under lifts_flip lifts_chain (map f xs) ys h xs refl
