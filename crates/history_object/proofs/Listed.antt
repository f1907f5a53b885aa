-- The elements of a list at places in an order.
use Rattle.std.proofs.Common.{◌≡◌, ◌⊎◌, ℕ, zero, suc, ◌+◌, ◌<◌, ◌≤◌, List, [], ◌∷◌, Some, length, get_or, map, slice_get, ap, subst, refl, sym, arith, inl, inr}
use Rattle.std.specs.List.Sorted.{IsPermutation}
use Rattle.std.proofs.lemmas.List.Sorted.{IsPermutation-map, IsPermutation-refl}
use Rattle.std.proofs.lemmas.Option.{get_or_from_slice_get}
use Rattle.history_object.specs.Carried.{AreBelow}
use Rattle.history_object.specs.Orders.{IsEachOnce, IsIn}
use Rattle.history_object.proofs.Pairs.{Every, Pairs}

-- these are the elements at these places
abbrev pub AreAt : {X : Type 0} → List X → List ℕ → List X → Type 0
AreAt xs [] [] = Unit {0}
AreAt xs (n ∷ ns) (y ∷ ys) = (slice_get xs n ≡ Some y) × AreAt xs ns ys
AreAt xs ns ys = ⊥

pub get_within : {X : Type 0} → (xs : List X) (i : ℕ) → i < length xs → (x : X) × (slice_get xs i ≡ Some x)
get_within [] i lt = absurd (omega (arith, lt))
get_within (x ∷ xs) zero lt = (x, refl)
get_within (x ∷ xs) (suc i) lt = get_within xs i (omega (arith, lt))

pub elements_at : {X : Type 0} → (xs : List X) (ns : List ℕ) → AreBelow (length xs) ns → (ys : List X) × AreAt xs ns ys
elements_at xs [] below = ([], tt)
elements_at xs (n ∷ ns) below =
    let first = get_within xs n below.0 in let rest = elements_at xs ns below.1 in (first.0 ∷ rest.0, (first.1, rest.1))

-- each place has an element
pub at_has : {X : Type 0} → (xs : List X) (ns : List ℕ) (ys : List X) → AreAt xs ns ys → Every (λ n. (x : X) × (slice_get xs n ≡ Some x)) ns
at_has xs [] ys at = tt
at_has xs (n ∷ ns) [] at = absurd at
at_has xs (n ∷ ns) (y ∷ ys) at = ((y, at.0), at_has xs ns ys at.1)

-- what holds of two places by their elements
every_to : {X : Type 0} (P : ℕ → Type 0) (R : X → Type 0) (xs : List X) (ns : List ℕ) (ys : List X) → ((n : ℕ) (b : X) → slice_get xs n ≡ Some b → P n → R b)
    → AreAt xs ns ys → Every P ns → Every R ys
every_to P R xs [] [] rule at every = tt
every_to P R xs [] (y ∷ ys) rule at every = absurd at
every_to P R xs (n ∷ ns) [] rule at every = absurd at
every_to P R xs (n ∷ ns) (y ∷ ys) rule at every = (rule n y at.0 every.0, every_to P R xs ns ys rule at.1 every.1)

every_back : {X : Type 0} (P : ℕ → Type 0) (R : X → Type 0) (xs : List X) (ns : List ℕ) (ys : List X) → ((n : ℕ) (b : X) → slice_get xs n ≡ Some b → R b → P n)
    → AreAt xs ns ys → Every R ys → Every P ns
every_back P R xs [] ys rule at every = tt
every_back P R xs (n ∷ ns) [] rule at every = absurd at
every_back P R xs (n ∷ ns) (y ∷ ys) rule at every = (rule n y at.0 every.0, every_back P R xs ns ys rule at.1 every.1)

pub pairs_to : {X : Type 0} (P : ℕ → ℕ → Type 0) (R : X → X → Type 0) (xs : List X) (ns : List ℕ) (ys : List X)
    → ((m n : ℕ) (a b : X) → slice_get xs m ≡ Some a → slice_get xs n ≡ Some b → P m n → R a b) → AreAt xs ns ys → Pairs P ns → Pairs R ys
pairs_to P R xs [] [] rule at pairs = tt
pairs_to P R xs [] (y ∷ ys) rule at pairs = absurd at
pairs_to P R xs (n ∷ ns) [] rule at pairs = absurd at
pairs_to P R xs (n ∷ ns) (y ∷ ys) rule at pairs =
    (every_to (P n) (R y) xs ns ys (λ k b there p. rule n k y b at.0 there p) at.1 pairs.0, pairs_to P R xs ns ys rule at.1 pairs.1)

pub pairs_back : {X : Type 0} (P : ℕ → ℕ → Type 0) (R : X → X → Type 0) (xs : List X) (ns : List ℕ) (ys : List X)
    → ((m n : ℕ) (a b : X) → slice_get xs m ≡ Some a → slice_get xs n ≡ Some b → R a b → P m n) → AreAt xs ns ys → Pairs R ys → Pairs P ns
pairs_back P R xs [] ys rule at pairs = tt
pairs_back P R xs (n ∷ ns) [] rule at pairs = absurd at
pairs_back P R xs (n ∷ ns) (y ∷ ys) rule at pairs =
    (every_back (P n) (R y) xs ns ys (λ k b there r. rule n k y b at.0 there r) at.1 pairs.0, pairs_back P R xs ns ys rule at.1 pairs.1)

-- the elements at places in two orders are elements in two orders
is_map : {X : Type 0} → (xs : List X) (d : X) (ns : List ℕ) (ys : List X) → AreAt xs ns ys → map (λ n. get_or xs n d) ns ≡ ys
is_map xs d [] [] at = refl
is_map xs d [] (y ∷ ys) at = absurd at
is_map xs d (n ∷ ns) [] at = absurd at
is_map {X} xs d (n ∷ ns) (y ∷ ys) at =
    let first : get_or xs n d ≡ y = get_or_from_slice_get xs n y d at.0 in
    let rest : map (λ k. get_or xs k d) ns ≡ ys = is_map xs d ns ys at.1 in
    λ i. first i ∷ rest i

none_at : {X : Type 0} → (ns : List ℕ) (ys : List X) → AreAt [] ns ys → ys ≡ []
none_at [] [] at = refl
none_at [] (y ∷ ys) at = absurd at
none_at (n ∷ ns) [] at = absurd at
none_at (n ∷ ns) (y ∷ ys) at = cc (at.0)

pub orders_at : {X : Type 0} → (xs : List X) (ns ms : List ℕ) (ys zs : List X) → IsPermutation ns ms → AreAt xs ns ys → AreAt xs ms zs → IsPermutation ys zs
orders_at [] ns ms ys zs same at at' =
    subst (λ us. IsPermutation us zs) (sym (none_at ns ys at)) (subst (λ us. IsPermutation [] us) (sym (none_at ms zs at')) (IsPermutation-refl []))
orders_at (x ∷ xs) ns ms ys zs same at at' =
    subst (λ us. IsPermutation us zs) (is_map (x ∷ xs) x ns ys at)
    (subst (λ us. IsPermutation (map (λ n. get_or (x ∷ xs) n x) ns) us) (is_map (x ∷ xs) x ms zs at')
    (IsPermutation-map (λ n. get_or (x ∷ xs) n x) ns ms same))

-- the places that a function names, from a number on, as many as there are elements
abbrev pub listed : {X : Type 0} → (ℕ → ℕ) → ℕ → List X → List ℕ
listed to k [] = []
listed to k (y ∷ ys) = to k ∷ listed to (suc k) ys

pub listed_at : {X : Type 0} → (to : ℕ → ℕ) (xs ys : List X) (k : ℕ) → ((i j : ℕ) → j ≡ k + i → slice_get ys i ≡ slice_get xs (to j)) → AreAt xs (listed to k ys) ys
listed_at to xs [] k is = tt
listed_at to xs (y ∷ ys) k is = (sym (is 0 k (omega arith)), listed_at to xs ys (suc k) (λ i j e. is (suc i) j (omega (arith, e))))

from_listed : {X : Type 0} → (to : ℕ → ℕ) (ys : List X) (k n : ℕ) → IsIn n (listed to k ys) → (j : ℕ) × (k ≤ j) × (to j ≡ n)
from_listed to [] k n at = absurd at
from_listed to (y ∷ ys) k n at = elim at [
  | inl same ↦ (k, omega arith, same)
  | inr later ↦ (let rest = from_listed to ys (suc k) n later in let le = rest.1 in (rest.0, omega (arith, le), rest.2))
]

pub listed_once : {X : Type 0} → (to : ℕ → ℕ) (ys : List X) (k : ℕ) → ((i j : ℕ) → to i ≡ to j → i ≡ j) → IsEachOnce (listed to k ys)
listed_once to [] k apart = tt
listed_once to (y ∷ ys) k apart = (
  λ at. (let twice = from_listed to ys (suc k) (to k) at in let same = apart twice.0 k twice.2 in let le = twice.1 in omega (arith, same, le)),
  listed_once to ys (suc k) apart,
)

pub in_listed : {X : Type 0} → (to : ℕ → ℕ) (ys : List X) (k j : ℕ) → k ≤ j → j < k + length ys → IsIn (to j) (listed to k ys)
in_listed to [] k j le lt = absurd (omega (arith, le, lt))
in_listed to (y ∷ ys) k j le lt = elim (first_or_later k j le) [
  | inl same ↦ inl (ap to same)
  | inr later ↦ inr (in_listed to ys (suc k) j later (omega (arith, lt)))
]
  where
    first_or_later : (k j : ℕ) → k ≤ j → (k ≡ j) ⊎ (suc k ≤ j)
    first_or_later k j le = grind arith
