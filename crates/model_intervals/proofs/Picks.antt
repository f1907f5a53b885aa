-- The choice of one element of a list, which leaves the others in their order.
-- A permutation of the list has the same choices, up to the order of the others.
use Rattle.std.proofs.Common.{◌≡◌, ◌⊎◌, inl, inr, Bool, true, ◌&&◌, List, [], ◌∷◌, refl, sym, subst}
use Rattle.std.specs.List.Sorted.{IsPermutation}
use Rattle.std.proofs.lemmas.Bool.{and_parts}
use Rattle.std.proofs.lemmas.List.Sorted.{IsPermutation-cons, IsPermutation-middle, IsPermutation-refl, IsPermutation-trans}
use Rattle.model_intervals.proofs.Permuted.{by_exchanges}

-- `x` is an element of the list, and `rest` has the others
abbrev pub Picks : {X : Type 0} → X → List X → List X → Type 0
Picks x rest [] = ⊥
Picks {X} x rest (y ∷ ys) = ((y ≡ x) × (rest ≡ ys)) ⊎ ((others : List X) × (rest ≡ y ∷ others) × Picks x others ys)

-- the list has a choice of `x` that leaves `rest` in some order
abbrev pub PicksSo : {X : Type 0} → X → List X → List X → Type 0
PicksSo {X} x rest ys = (others : List X) × Picks x others ys × IsPermutation rest others

-- what the induction over a permutation needs
abbrev Keeps : {X : Type 0} → List X → List X → Type 0
Keeps {X} us vs = IsPermutation us vs × ((x : X) (rest : List X) → Picks x rest us → PicksSo x rest vs)

equal_permuted : {X : Type 0} (us vs : List X) → us ≡ vs → IsPermutation us vs
equal_permuted us vs same = subst (λ ws. IsPermutation us ws) same (IsPermutation-refl us)

keeps_under : {X : Type 0} (a : X) (us vs : List X) → Keeps us vs → Keeps (a ∷ us) (a ∷ vs)
keeps_under {X} a us vs keeps = (IsPermutation-cons a us vs keeps.0, pick)
  where
    pick : (x : X) (rest : List X) → Picks x rest (a ∷ us) → PicksSo x rest (a ∷ vs)
    pick x rest (inl here) = (vs, inl (here.0, refl), subst (λ ws. IsPermutation ws vs) (sym here.1) keeps.0)
    pick x rest (inr later) =
        let found = keeps.1 x later.0 later.2 in
        (a ∷ found.0, inr (found.0, refl, found.1), subst (λ ws. IsPermutation ws (a ∷ found.0)) (sym later.1) (IsPermutation-cons a later.0 found.0 found.2))

flipped : {X : Type 0} (a b : X) (us : List X) → IsPermutation (a ∷ b ∷ us) (b ∷ a ∷ us)
flipped a b us = IsPermutation-middle (a ∷ []) b us

keeps_flip : {X : Type 0} (a b : X) (us : List X) → Keeps (a ∷ b ∷ us) (b ∷ a ∷ us)
keeps_flip {X} a b us = (flipped a b us, pick)
  where
    pick : (x : X) (rest : List X) → Picks x rest (a ∷ b ∷ us) → PicksSo x rest (b ∷ a ∷ us)
    pick x rest (inl here) = (b ∷ us, inr (us, refl, inl (here.0, refl)), equal_permuted rest (b ∷ us) here.1)
    pick x rest (inr (others, is, inl next)) =
        (a ∷ us, inl (next.0, refl), subst (λ ws. IsPermutation ws (a ∷ us)) (sym is) (IsPermutation-cons a others us (equal_permuted others us next.1)))
    pick x rest (inr (others, is, inr later)) = (
      b ∷ a ∷ later.0,
      inr (a ∷ later.0, refl, inr (later.0, refl, later.2)),
      subst (λ ws. IsPermutation ws (b ∷ a ∷ later.0)) (sym is)
          (subst (λ ws. IsPermutation (a ∷ ws) (b ∷ a ∷ later.0)) (sym later.1) (flipped a b later.0)),
    )

keeps_chain : {X : Type 0} (us vs ws : List X) → Keeps us vs → Keeps vs ws → Keeps us ws
keeps_chain us vs ws first second = (
  IsPermutation-trans us vs ws first.0 second.0,
  λ x rest picks.
      let middle = first.1 x rest picks in
      let last = second.1 x middle.0 middle.1 in
      (last.0, last.1, IsPermutation-trans rest middle.0 last.0 middle.2 last.2),
)

-- the first element of a permutation is a choice, and the elements behind it are the others in some order
pub first_picked : {X : Type 0} (y : X) (ys xs : List X) → IsPermutation (y ∷ ys) xs → PicksSo y ys xs
first_picked y ys xs same =
    (by_exchanges Keeps (λ us. (IsPermutation-refl us, λ x rest picks. (rest, picks, IsPermutation-refl rest))) keeps_under keeps_flip keeps_chain (y ∷ ys) xs same).1
    y ys (inl (refl, refl))

-- each choice passes the test
abbrev pub each_pick : {X : Type 0} → (X → List X → Bool) → List X → Bool
each_pick test [] = true
each_pick test (x ∷ xs) = test x xs && each_pick (λ y others. test y (x ∷ others)) xs

pub pick_passes : {X : Type 0} (test : X → List X → Bool) (xs : List X) → each_pick test xs ≡ true → (x : X) (rest : List X) → Picks x rest xs → test x rest ≡ true
pick_passes test [] passes x rest picks = absurd picks
pick_passes test (y ∷ ys) passes x rest (inl here) =
    subst (λ ws. test x ws ≡ true) (sym here.1) (subst (λ z. test z ys ≡ true) here.0 (and_parts _ _ passes).0)
pick_passes test (y ∷ ys) passes x rest (inr later) =
    subst (λ ws. test x ws ≡ true) (sym later.1) (pick_passes (λ z others. test z (y ∷ others)) ys (and_parts _ _ passes).1 x later.0 later.2)
