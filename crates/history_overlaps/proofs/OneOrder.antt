-- Two lists with the same elements, each in ascending order of a number, are one list.
use Rattle.std.proofs.Common.{◌≡◌, ◌⊎◌, ℕ, ◌<◌, List, [], ◌∷◌, ap, arith, get_or, inl, inr, refl, subst, sym}
use Rattle.std.specs.List.{Contains}
use Rattle.std.proofs.lemmas.Option.{slice_get-get_or}
use Rattle.model_intervals.proofs.Lists.{Every, Has, Pairs, every_both}
use Rattle.model_intervals.proofs.Places.{has_from_place}

-- the element is one of the list
abbrev pub IsIn : {X : Type 0} → List X → X → Type 0
IsIn xs x = Has (λ y. y ≡ x) xs

pub is_in : {X : Type 0} (xs : List X) (x : X) → Contains xs x → IsIn xs x
is_in xs x contains = has_from_place (λ y. y ≡ x) xs contains.0 (get_or xs contains.0 x) (slice_get-get_or xs contains.0 x contains.1) contains.2

-- what holds of each element holds of one of them
pub every_in : {X : Type 0} (P : X → Type 0) (xs : List X) (x : X) → Every P xs → IsIn xs x → P x
every_in P [] x every is = absurd is
every_in P (y ∷ xs) x every (inl here) = subst P here every.0
every_in P (y ∷ xs) x every (inr later) = every_in P xs x every.1 later

-- of two elements that differ one is before the other
pub one_before : {X : Type 0} (R : X → X → Type 0) (xs : List X) (x y : X) → Pairs R xs → IsIn xs x → IsIn xs y → (x ≡ y → ⊥) → R x y ⊎ R y x
one_before R [] x y pairs is_x is_y apart = absurd is_x
one_before R (z ∷ xs) x y pairs (inl first) (inl second) apart = absurd (apart (cc (first, second)))
one_before R (z ∷ xs) x y pairs (inl first) (inr later) apart = inl (subst (λ w. R w y) first (every_in (R z) xs y pairs.0 later))
one_before R (z ∷ xs) x y pairs (inr later) (inl second) apart = inr (subst (λ w. R w x) second (every_in (R z) xs x pairs.0 later))
one_before R (z ∷ xs) x y pairs (inr first) (inr second) apart = one_before R xs x y pairs.1 first second apart

module _ {X : Type 0} (rank : X → ℕ) where
  abbrev Below : X → X → Type 0
  Below x y = rank x < rank y

  -- an element above the first is one of the others
  among_others : (first : X) (xs : List X) (x : X) → Below first x → IsIn (first ∷ xs) x → IsIn xs x
  among_others first xs x below (inl here) = let same = ap rank here in absurd (omega (arith, same, below))
  among_others first xs x below (inr later) = later

  -- both lists have the same first element
  same_first : (x y : X) (xs ys : List X) → Every (Below x) xs → Every (Below y) ys → IsIn (y ∷ ys) x → IsIn (x ∷ xs) y → y ≡ x
  same_first x y xs ys above_x above_y (inl here) is_y = here
  same_first x y xs ys above_x above_y (inr later) (inl here) = sym here
  same_first x y xs ys above_x above_y (inr later) (inr behind) =
      let up = every_in (Below y) ys x above_y later in
      let down = every_in (Below x) xs y above_x behind in
      absurd (omega (arith, up, down))

  pub one_order : (xs ys : List X) → Pairs Below xs → Pairs Below ys → Every (IsIn ys) xs → Every (IsIn xs) ys → xs ≡ ys
  one_order [] [] rise_x rise_y in_y in_x = refl
  one_order [] (y ∷ ys) rise_x rise_y in_y in_x = absurd in_x.0
  one_order (x ∷ xs) [] rise_x rise_y in_y in_x = absurd in_y.0
  one_order (x ∷ xs) (y ∷ ys) rise_x rise_y in_y in_x =
      let same = same_first x y xs ys rise_x.0 rise_y.0 in_y.0 in_x.0 in
      let above_y = subst (λ z. Every (Below z) xs) (sym same) rise_x.0 in
      let above_x = subst (λ z. Every (Below z) ys) same rise_y.0 in
      let rest = one_order xs ys rise_x.1 rise_y.1
      (every_both (Below y) (IsIn (y ∷ ys)) (IsIn ys) xs (among_others y ys) above_y in_y.1)
      (every_both (Below x) (IsIn (x ∷ xs)) (IsIn xs) ys (among_others x xs) above_x in_x.1) in
      cc (same, rest)
