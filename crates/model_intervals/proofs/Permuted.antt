-- What a permutation of a list keeps.
use Rattle.std.proofs.Common.{ℕ, zero, suc, ◌<◌, inl, inr, Bool, List, [], ◌∷◌, length, set, get_or, arith, subst}
use Rattle.std.specs.List.{filter, swap}
use Rattle.std.specs.List.Sorted.{IsPermutation}
use Rattle.std.proofs.lemmas.List.Sorted.{IsPermutation-cons, IsPermutation-keeps, IsPermutation-middle, IsPermutation-refl, IsPermutation-trans}
use Rattle.std.proofs.lemmas.List.{get_or_default}
use Rattle.model_intervals.proofs.Lists.{Every, Has, tells}
use Rattle.model_intervals.proofs.Places.{Mutual}

module _ {X : Type 0} (P : List X → List X → Type 0) (same : (xs : List X) → P xs xs)
    (under : (x : X) (xs ys : List X) → P xs ys → P (x ∷ xs) (x ∷ ys))
    (flip : (x y : X) (xs : List X) → P (x ∷ y ∷ xs) (y ∷ x ∷ xs))
    (chain : (xs ys zs : List X) → P xs ys → P ys zs → P xs zs) where
  -- exchanging the first element and a later one
  with_first : (x : X) (xs : List X) (j : ℕ) → j < length xs → P (x ∷ xs) (get_or xs j x ∷ set xs j x)
  with_first x [] j below = absurd (omega (arith, below))
  with_first x (y ∷ xs) zero below = flip x y xs
  with_first x (y ∷ xs) (suc j) below =
      let z = get_or xs j x in
      chain (x ∷ y ∷ xs) (y ∷ x ∷ xs) (z ∷ y ∷ set xs j x) (flip x y xs)
      (chain (y ∷ x ∷ xs) (y ∷ z ∷ set xs j x) (z ∷ y ∷ set xs j x) (under y (x ∷ xs) (z ∷ set xs j x) (with_first x xs j (omega (arith, below)))) (flip y z (set xs j x)))

  -- exchanging two elements
  exchanged : (d : X) (xs : List X) (i j : ℕ) → i < length xs → j < length xs → P xs (set (set xs i (get_or xs j d)) j (get_or xs i d))
  exchanged d [] i j at_i at_j = absurd (omega (arith, at_i))
  exchanged d (x ∷ xs) zero zero at_i at_j = same (x ∷ xs)
  exchanged d (x ∷ xs) zero (suc j) at_i at_j =
      subst (λ z. P (x ∷ xs) (z ∷ set xs j x)) (get_or_default xs j x d (omega (arith, at_j))) (with_first x xs j (omega (arith, at_j)))
  exchanged d (x ∷ xs) (suc i) zero at_i at_j =
      subst (λ z. P (x ∷ xs) (z ∷ set xs i x)) (get_or_default xs i x d (omega (arith, at_i))) (with_first x xs i (omega (arith, at_i)))
  exchanged d (x ∷ xs) (suc i) (suc j) at_i at_j =
      under x xs (set (set xs i (get_or xs j d)) j (get_or xs i d)) (exchanged d xs i j (omega (arith, at_i)) (omega (arith, at_j)))

  swapped : (xs : List X) (i j : ℕ) → i < length xs → j < length xs → P xs (swap xs i j)
  swapped [] i j at_i at_j = absurd (omega (arith, at_i))
  swapped (x ∷ xs) i j at_i at_j = exchanged x (x ∷ xs) i j at_i at_j

  -- induction over a permutation: a reflexive and transitive relation on lists that holds for an exchange of
  -- neighbours, also behind a common front
  pub by_exchanges : (xs ys : List X) → IsPermutation xs ys → P xs ys
  by_exchanges xs ys h = IsPermutation-keeps xs (P xs) (same xs) (λ l i j at_i at_j p. chain xs l (swap l i j) p (swapped l i j at_i at_j)) ys h

-- a filter of a permutation is a permutation
filter_under : {X : Type 0} (p : X → Bool) (x : X) (xs ys : List X) → IsPermutation (filter p xs) (filter p ys) → IsPermutation (filter p (x ∷ xs)) (filter p (x ∷ ys))
filter_under p x xs ys h = elim (tells (p x)) [
  | inl pass ↦ rw pass (IsPermutation-cons x (filter p xs) (filter p ys) h)
  | inr fail ↦ rw fail h
]

filter_flip : {X : Type 0} (p : X → Bool) (x y : X) (xs : List X) → IsPermutation (filter p (x ∷ y ∷ xs)) (filter p (y ∷ x ∷ xs))
filter_flip p x y xs = elim (tells (p x)) [
  | inl pass ↦ elim (tells (p y)) [
    | inl too ↦ rw (pass, too) (IsPermutation-middle (x ∷ []) y (filter p xs))
    | inr fail ↦ rw (pass, fail) (IsPermutation-refl (x ∷ filter p xs))
  ]
  | inr fail ↦ rw fail (IsPermutation-refl (filter p (y ∷ xs)))
]

pub filter_permuted : {X : Type 0} (p : X → Bool) (xs ys : List X) → IsPermutation xs ys → IsPermutation (filter p xs) (filter p ys)
filter_permuted p xs ys h = by_exchanges (λ us vs. IsPermutation (filter p us) (filter p vs)) (λ us. IsPermutation-refl (filter p us)) (filter_under p) (filter_flip p)
    (λ us vs ws a b. IsPermutation-trans (filter p us) (filter p vs) (filter p ws) a b) xs ys h

-- the quantifiers over a permutation
pub every_permuted : {X : Type 0} (Q : X → Type 0) (xs ys : List X) → IsPermutation xs ys → Every Q xs → Every Q ys
every_permuted Q xs ys h = by_exchanges (λ us vs. Every Q us → Every Q vs) (λ us e. e) (λ x us vs f e. (e.0, f e.1)) (λ x y us e. (e.1.0, (e.0, e.1.1)))
    (λ us vs ws f g e. g (f e)) xs ys h

pub has_permuted : {X : Type 0} (Q : X → Type 0) (xs ys : List X) → IsPermutation xs ys → Has Q xs → Has Q ys
has_permuted {X} Q xs ys h = by_exchanges (λ us vs. Has Q us → Has Q vs) (λ us e. e) has_under has_flip (λ us vs ws f g e. g (f e)) xs ys h
  where
    has_under : (x : X) (us vs : List X) → (Has Q us → Has Q vs) → Has Q (x ∷ us) → Has Q (x ∷ vs)
    has_under x us vs f (inl here) = inl here
    has_under x us vs f (inr later) = inr (f later)

    has_flip : (x y : X) (us : List X) → Has Q (x ∷ y ∷ us) → Has Q (y ∷ x ∷ us)
    has_flip x y us (inl here) = inr (inl here)
    has_flip x y us (inr (inl next)) = inl next
    has_flip x y us (inr (inr later)) = inr (inr later)

-- what the induction needs for `Mutual`
abbrev Keeps : {X : Type 0} → (X → X → Type 0) → List X → List X → Type 0
Keeps {X} R us vs = ((x : X) → Every (λ b. R x b × R b x) us → Every (λ b. R x b × R b x) vs) × (Mutual R us → Mutual R vs)

keeps_under : {X : Type 0} (R : X → X → Type 0) (x : X) (us vs : List X) → Keeps R us vs → Keeps R (x ∷ us) (x ∷ vs)
keeps_under R x us vs k = (λ y e. (e.0, k.0 y e.1), λ e. (k.0 x e.0, k.1 e.1))

keeps_flip : {X : Type 0} (R : X → X → Type 0) (x y : X) (us : List X) → Keeps R (x ∷ y ∷ us) (y ∷ x ∷ us)
keeps_flip R x y us = (λ z e. (e.1.0, (e.0, e.1.1)), λ e. (((e.0.0.1, e.0.0.0), e.1.0), (e.0.1, e.1.1)))

keeps_chain : {X : Type 0} (R : X → X → Type 0) (us vs ws : List X) → Keeps R us vs → Keeps R vs ws → Keeps R us ws
keeps_chain R us vs ws k l = (λ y e. l.0 y (k.0 y e), λ e. l.1 (k.1 e))

pub mutual_permuted : {X : Type 0} (R : X → X → Type 0) (xs ys : List X) → IsPermutation xs ys → Mutual R xs → Mutual R ys
mutual_permuted R xs ys h = (by_exchanges (Keeps R) (λ us. (λ y e. e, λ e. e)) (keeps_under R) (keeps_flip R) (keeps_chain R) xs ys h).1
