-- What a filter keeps of a list.
use Rattle.std.proofs.Common.{◌≡◌, ◌⊎◌, inl, inr, Bool, true, false, List, [], ◌∷◌, map, ap, refl, sym, ◌∙◌}
use Rattle.std.specs.List.{filter}
use Rattle.model_intervals.proofs.Lists.{Every, Has, Pairs, tells}

-- the quantifiers over a filtered list
pub every_filter : {X : Type 0} (P : X → Type 0) (p : X → Bool) (xs : List X) → Every P xs → Every P (filter p xs)
every_filter P p [] h = tt
every_filter P p (x ∷ xs) h = elim (tells (p x)) [
  | inl pass ↦ rw pass (h.0, every_filter P p xs h.1)
  | inr fail ↦ rw fail (every_filter P p xs h.1)
]

pub filter_every : {X : Type 0} (p : X → Bool) (xs : List X) → Every (λ x. p x ≡ true) (filter p xs)
filter_every p [] = tt
filter_every p (x ∷ xs) = elim (tells (p x)) [
  | inl pass ↦ rw pass (pass, filter_every p xs)
  | inr fail ↦ rw fail (filter_every p xs)
]

pub every_unfilter : {X : Type 0} (P : X → Type 0) (p : X → Bool) (xs : List X) → Every P (filter p xs) → Every (λ x. p x ≡ true → P x) xs
every_unfilter P p [] h = tt
every_unfilter P p (x ∷ xs) h = elim (tells (p x)) [
  | inl pass ↦ let h' : P x × Every P (filter p xs) = rw pass at h in (λ is. h'.0, every_unfilter P p xs h'.1)
  | inr fail ↦ let h' : Every P (filter p xs) = rw fail at h in (λ is. absurd (let clash : true ≡ false = sym is ∙ fail in cc clash), every_unfilter P p xs h')
]

pub pairs_filter : {X : Type 0} (R : X → X → Type 0) (p : X → Bool) (xs : List X) → Pairs R xs → Pairs R (filter p xs)
pairs_filter R p [] h = tt
pairs_filter R p (x ∷ xs) h = elim (tells (p x)) [
  | inl pass ↦ rw pass (every_filter (R x) p xs h.0, pairs_filter R p xs h.1)
  | inr fail ↦ rw fail (pairs_filter R p xs h.1)
]

pub has_filter : {X : Type 0} (P : X → Type 0) (p : X → Bool) (xs : List X) → ((x : X) → P x → p x ≡ true) → Has P xs → Has P (filter p xs)
has_filter P p [] pass h = h
has_filter P p (x ∷ xs) pass (inl here) = rw (pass x here) (inl here)
has_filter P p (x ∷ xs) pass (inr later) = elim (tells (p x)) [
  | inl t ↦ rw t (inr (has_filter P p xs pass later))
  | inr f ↦ rw f (has_filter P p xs pass later)
]

pub has_unfilter : {X : Type 0} (P : X → Type 0) (p : X → Bool) (xs : List X) → Has P (filter p xs) → Has P xs
has_unfilter P p [] h = h
has_unfilter P p (x ∷ xs) h = elim (tells (p x)) [
  | inl t ↦ let h' : P x ⊎ Has P (filter p xs) = rw t at h in elim h' [ inl here ↦ inl here | inr later ↦ inr (has_unfilter P p xs later) ]
  | inr f ↦ let h' : Has P (filter p xs) = rw f at h in inr (has_unfilter P p xs h')
]

-- a filter of mapped elements
pub filter_map : {X Y : Type 0} (f : X → Y) (p : Y → Bool) (xs : List X) → filter p (map f xs) ≡ map f (filter (λ x. p (f x)) xs)
filter_map f p [] = refl
filter_map f p (x ∷ xs) = elim (tells (p (f x))) [
  | inl pass ↦ rw pass (ap (λ rest. f x ∷ rest) (filter_map f p xs))
  | inr fail ↦ rw fail (filter_map f p xs)
]

-- a filter that no element passes, and one that all pass
pub filter_none : {X : Type 0} (p : X → Bool) (xs : List X) → Every (λ x. p x ≡ false) xs → filter p xs ≡ []
filter_none p [] h = refl
filter_none p (x ∷ xs) h = rw h.0 (filter_none p xs h.1)

pub filter_all : {X : Type 0} (p : X → Bool) (xs : List X) → Every (λ x. p x ≡ true) xs → filter p xs ≡ xs
filter_all p [] h = refl
filter_all p (x ∷ xs) h = rw h.0 (ap (λ rest. x ∷ rest) (filter_all p xs h.1))
