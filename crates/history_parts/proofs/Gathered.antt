-- Configurations that are gathered one by one.
use Rattle.std.proofs.Common.{◌≡◌, ◌↔◌, ◌⊎◌, inl, inr, ℕ, ◌+◌, ◌<◌, ◌≤◌, List, [], ◌∷◌, Option, Some, None, length, slice_get, ap, sym, subst, ◌∙◌, arith}
use Rattle.std.proofs.lemmas.Option.{slice_get_within}
use Rattle.states_pool.specs.Pool.{HasEachOnce, HasTaken}
use Rattle.history_object.specs.declared.configuration.Configuration.{Configuration}
use Rattle.history_object.specs.Carried.{IsKept}
use Rattle.history_object.proofs.Copied.{IsBefore}
use Rattle.history_object.proofs.Lists.{below_cases, get_front, get_grown}
use Rattle.history_parts.specs.Products.{HasMoreThan, IsAfterOne, IsOfProduct, IsStored, product}
use Rattle.history_parts.proofs.Products.{kept_none, of_product, same_both}

-- ---- before a place

pub none_before : {X : Type 0} (xs : List X) (x : X) → IsBefore xs 0 x → ⊥
none_before xs x (i, lt, at) = omega (arith, lt)

pub before_cases : {X : Type 0} (xs : List X) (n : ℕ) (y x : X) → slice_get xs n ≡ Some y → IsBefore xs (n + 1) x → IsBefore xs n x ⊎ (y ≡ x)
before_cases xs n y x here (i, lt, at) = elim (below_cases i n (omega (arith, lt))) [
  | inl before ↦ inl (i, before, at)
  | inr same ↦ inr (let both = sym here ∙ (ap (λ (k : ℕ). slice_get xs k) (sym same) ∙ at) in cc (both))
]

pub before_more : {X : Type 0} (xs : List X) (n : ℕ) (x : X) → IsBefore xs n x → IsBefore xs (n + 1) x
before_more xs n x (i, lt, at) = (i, omega (arith, lt), at)

pub before_now : {X : Type 0} (xs : List X) (n : ℕ) (x : X) → slice_get xs n ≡ Some x → IsBefore xs (n + 1) x
before_now xs n x at = (n, omega arith, at)

pub before_all : {X : Type 0} (xs : List X) (n : ℕ) (x : X) → length xs ≤ n → IsKept xs x → IsBefore xs n x
before_all xs n x all (i, at) = let within = slice_get_within xs i x at in (i, omega (arith, within, all), at)

pub before_kept : {X : Type 0} (xs : List X) (n : ℕ) (x : X) → IsBefore xs n x → IsKept xs x
before_kept xs n x (i, lt, at) = (i, at)

-- ---- what is taken

taken_stays : {X : Type 0} (all all' : List X) (x c : X) → HasTaken all all' x → IsKept all c → IsKept all' c
taken_stays all all' x c (inl e) at = subst (λ xs. IsKept xs c) (sym e) at
taken_stays all all' x c (inr e) at = subst (λ xs. IsKept xs c) (sym e.1) (at.0, get_front all (x ∷ []) at.0 c at.1)

taken_or : {X : Type 0} (all all' : List X) (x c : X) → HasTaken all all' x → IsKept all' c → IsKept all c ⊎ (c ≡ x)
taken_or all all' x c (inl e) at = inl (subst (λ xs. IsKept xs c) e at)
taken_or all all' x c (inr e) at = elim (get_grown all x at.0 c (subst (λ xs. slice_get xs at.0 ≡ Some c) e.1 at.1)) [
  | inl was ↦ inl (at.0, was)
  | inr new ↦ inr new.1
]

-- the configuration after a call was taken
pub stored_taken : {S C : Type 0} (effect : S → C → Option S) (call : C) (c made : Configuration S) (all all' : List (Configuration S)) → HasTaken all all' made → IsKept all' made
    → IsStored effect call c made → (d : Configuration S) → IsKept all' d ↔ (IsKept all d ⊎ IsStored effect call c d)
stored_taken {S} effect call c made all all' taken now stored d = (
  λ is. elim (taken_or all all' made d taken is) [
    | inl was ↦ inl was
    | inr same ↦ inr (subst (λ (x : Configuration S). IsStored effect call c x) (sym same) stored)
  ],
  λ is. elim is [
    | inl was ↦ taken_stays all all' made d taken was
    | inr other ↦ (
        let both = sym stored.0 ∙ other.0 in
        let states : made.state ≡ d.state = cc (both) in
        let marks : made.done ≡ d.done = stored.1 ∙ sym other.1 in
        let same : made ≡ d = same_both made d states marks in
        subst (λ (x : Configuration S). IsKept all' x) same now)
  ],
)

-- the call can't have its effect
pub stored_none : {S C : Type 0} (effect : S → C → Option S) (call : C) (c : Configuration S) (all : List (Configuration S)) → effect c.state call ≡ None
    → (d : Configuration S) → IsKept all d ↔ (IsKept all d ⊎ IsStored effect call c d)
stored_none effect call c all none d = (
  λ is. inl is,
  λ is. elim is [ inl was ↦ was | inr other ↦ (let both = sym none ∙ other.0 in let ne : ⊥ = cc (both) in absurd ne) ],
)

-- ---- after each of the calls

-- these are the configurations that were there, and those after one of the calls before a place
abbrev pub AreWithFront : {S C : Type 0} → (S → C → Option S) → List (Configuration S) → Configuration S → List C → ℕ → List (Configuration S) → Type 0
AreWithFront {S} {C} effect old c calls n all = (d : Configuration S) → IsKept all d ↔ (IsKept old d ⊎ ((call : C) × IsBefore calls n call × IsStored effect call c d))

pub front_none : {S C : Type 0} (effect : S → C → Option S) (all : List (Configuration S)) (c : Configuration S) (calls : List C) → AreWithFront effect all c calls 0 all
front_none effect all c calls d = (λ is. inl is, λ is. elim is [ inl was ↦ was | inr one ↦ absurd (none_before calls one.0 one.1) ])

pub front_one : {S C : Type 0} (effect : S → C → Option S) (old all all' : List (Configuration S)) (c : Configuration S) (calls : List C) (n : ℕ) (call : C)
    → slice_get calls n ≡ Some call → ((d : Configuration S) → IsKept all' d ↔ (IsKept all d ⊎ IsStored effect call c d))
    → AreWithFront effect old c calls n all → AreWithFront effect old c calls (n + 1) all'
front_one {S} {C} effect old all all' c calls n call here added was d = (
  λ is. elim ((added d).0 is) [
    | inl before ↦ elim ((was d).0 before) [
      | inl first ↦ inl first
      | inr one ↦ inr (one.0, before_more calls n one.0 one.1, one.2)
    ]
    | inr stored ↦ inr (call, before_now calls n call here, stored)
  ],
  λ is. elim is [
    | inl first ↦ (added d).1 (inl ((was d).1 (inl first)))
    | inr one ↦ elim (before_cases calls n call one.0 here one.1) [
      | inl before ↦ (added d).1 (inl ((was d).1 (inr (one.0, before, one.2))))
      | inr same ↦ (added d).1 (inr (subst (λ (x : C). IsStored effect x c d) (sym same) one.2))
    ]
  ],
)

pub front_all : {S C : Type 0} (effect : S → C → Option S) (old all : List (Configuration S)) (c : Configuration S) (calls : List C) (n : ℕ) → length calls ≤ n
    → AreWithFront effect old c calls n all → (d : Configuration S) → IsKept all d ↔ (IsKept old d ⊎ IsAfterOne effect calls c d)
front_all effect old all c calls n past was d = (
  λ is. elim ((was d).0 is) [ inl first ↦ inl first | inr one ↦ inr (one.0, before_kept calls n one.0 one.1, one.2) ],
  λ is. elim is [ inl first ↦ (was d).1 (inl first) | inr one ↦ (was d).1 (inr (one.0, before_all calls n one.0 past one.1, one.2)) ],
)

-- ---- from each of the configurations

-- these are the configurations after one of the calls, from one of the kept ones before a place
abbrev pub AreOfFront : {S C : Type 0} → (S → C → Option S) → List (Configuration S) → List C → ℕ → List (Configuration S) → Type 0
AreOfFront {S} {C} effect kept calls n all = (d : Configuration S)
    → IsKept all d ↔ ((c : Configuration S) × (call : C) × IsBefore kept n c × IsKept calls call × IsStored effect call c d)

pub product_none : {S C : Type 0} (effect : S → C → Option S) (kept : List (Configuration S)) (calls : List C) (all : List (Configuration S)) → all ≡ []
    → AreOfFront effect kept calls 0 all
product_none {S} effect kept calls all is d = (
  λ in_all. absurd (kept_none d (subst (λ (xs : List (Configuration S)). IsKept xs d) is in_all)),
  λ one. absurd (none_before kept one.0 one.2),
)

pub product_one : {S C : Type 0} (effect : S → C → Option S) (kept : List (Configuration S)) (calls : List C) (n : ℕ) (all all' : List (Configuration S)) (c : Configuration S)
    → slice_get kept n ≡ Some c → ((d : Configuration S) → IsKept all' d ↔ (IsKept all d ⊎ IsAfterOne effect calls c d))
    → AreOfFront effect kept calls n all → AreOfFront effect kept calls (n + 1) all'
product_one {S} effect kept calls n all all' c here added was d = (
  λ is. elim ((added d).0 is) [
    | inl before ↦ let one = (was d).0 before in (one.0, one.1, before_more kept n one.0 one.2, one.3, one.4)
    | inr one ↦ (c, one.0, before_now kept n c here, one.1, one.2)
  ],
  λ one. elim (before_cases kept n c one.0 here one.2) [
    | inl before ↦ (added d).1 (inl ((was d).1 (one.0, one.1, before, one.3, one.4)))
    | inr same ↦ (added d).1 (inr (one.1, one.3, subst (λ (x : Configuration S). IsStored effect one.1 x d) (sym same) one.4))
  ],
)

pub product_all : {S C : Type 0} (effect : S → C → Option S) (kept : List (Configuration S)) (calls : List C) (n : ℕ) (all : List (Configuration S)) → length kept ≤ n
    → AreOfFront effect kept calls n all → (d : Configuration S) → IsKept all d ↔ IsOfProduct effect kept calls d
product_all effect kept calls n all past was d = (
  λ is. let one = (was d).0 is in (one.0, one.1, before_kept kept n one.0 one.2, one.3, one.4),
  λ one. (was d).1 (one.0, one.1, before_all kept n one.0 past one.2, one.3, one.4),
)

-- different ones that were gathered, more than `most`
pub more_of_front : {S C : Type 0} (effect : S → C → Option S) (kept : List (Configuration S)) (calls : List C) (n most : ℕ) (all : List (Configuration S))
    → AreOfFront effect kept calls n all → HasEachOnce all → most < length all → HasMoreThan most (product effect kept calls)
more_of_front effect kept calls n most all was once more = (
  all,
  once,
  more,
  λ d is. let one = (was d).0 is in of_product effect kept calls d one.0 one.1 (before_kept kept n one.0 one.2) one.3 one.4,
)
