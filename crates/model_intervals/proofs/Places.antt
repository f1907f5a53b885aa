-- Conversions between the quantifiers of `Lists` and statements about the places of a list.
use Rattle.std.proofs.Common.{◌≡◌, ◌≢◌, ℕ, zero, suc, inl, inr, List, [], ◌∷◌, arith, refl, subst, Some, slice_get}
use Rattle.std.specs.List.{All, AllPairs}
use Rattle.model_intervals.proofs.Lists.{Every, Has, Pairs}

-- `All` and `AllPairs` of std
pub every_from : {X : Type 0} (P : X → Type 0) (xs : List X) → All P xs → Every P xs
every_from P [] h = tt
every_from P (x ∷ xs) h = (h 0 x (omega arith), every_from P xs (λ k d below. h (suc k) d (omega (arith, below))))

pub all_from : {X : Type 0} (P : X → Type 0) (xs : List X) → Every P xs → All P xs
all_from P [] h k d below = absurd (omega (arith, below))
all_from P (x ∷ xs) h zero d below = h.0
all_from P (x ∷ xs) h (suc k) d below = all_from P xs h.1 k d (omega (arith, below))

pub pairs_from : {X : Type 0} (R : X → X → Type 0) (xs : List X) → AllPairs R xs → Pairs R xs
pairs_from R [] h = tt
pairs_from R (x ∷ xs) h = (
  every_from (R x) xs (λ k d below. h 0 (suc k) d (omega arith) (omega (arith, below))),
  pairs_from R xs (λ i j d i_j below. h (suc i) (suc j) d (omega (arith, i_j)) (omega (arith, below))),
)

pub all_pairs_from : {X : Type 0} (R : X → X → Type 0) (xs : List X) → Pairs R xs → AllPairs R xs
all_pairs_from R [] h i j d i_j below = absurd (omega (arith, below))
all_pairs_from R (x ∷ xs) h i zero d i_j below = absurd (omega (arith, i_j))
all_pairs_from R (x ∷ xs) h zero (suc j) d i_j below = all_from (R x) xs h.0 j d (omega (arith, below))
all_pairs_from R (x ∷ xs) h (suc i) (suc j) d i_j below = all_pairs_from R xs h.1 i j d (omega (arith, i_j)) (omega (arith, below))

-- the element at a place
pub every_at : {X : Type 0} (P : X → Type 0) (xs : List X) (k : ℕ) (x : X) → Every P xs → slice_get xs k ≡ Some x → P x
every_at P [] zero x h is = cc
every_at P [] (suc k) x h is = cc
every_at P (y ∷ xs) zero x h is = let same : y ≡ x = cc is in subst P same h.0
every_at P (y ∷ xs) (suc k) x h is = every_at P xs k x h.1 is

pub every_from_places : {X : Type 0} (P : X → Type 0) (xs : List X) → ((k : ℕ) (x : X) → slice_get xs k ≡ Some x → P x) → Every P xs
every_from_places P [] h = tt
every_from_places P (x ∷ xs) h = (h 0 x refl, every_from_places P xs (λ k y is. h (suc k) y is))

pub has_from_place : {X : Type 0} (P : X → Type 0) (xs : List X) (k : ℕ) (x : X) → slice_get xs k ≡ Some x → P x → Has P xs
has_from_place P [] zero x is h = cc
has_from_place P [] (suc k) x is h = cc
has_from_place P (y ∷ xs) zero x is h = let same : x ≡ y = cc is in inl (subst P same h)
has_from_place P (y ∷ xs) (suc k) x is h = inr (has_from_place P xs k x is h)

-- the relation holds between each two elements at different places, in both directions
abbrev pub Mutual : {X : Type 0} → (X → X → Type 0) → List X → Type 0
Mutual R xs = Pairs (λ a b. R a b × R b a) xs

pub mutual_from_places : {X : Type 0} (R : X → X → Type 0) (xs : List X)
    → ((i j : ℕ) (a b : X) → i ≢ j → slice_get xs i ≡ Some a → slice_get xs j ≡ Some b → R a b) → Mutual R xs
mutual_from_places R [] h = tt
mutual_from_places R (x ∷ xs) h = (
  every_from_places (λ b. R x b × R b x) xs (λ k b is. (h 0 (suc k) x b (λ e. omega (arith, e)) refl is, h (suc k) 0 b x (λ e. omega (arith, e)) is refl)),
  mutual_from_places R xs (λ i j a b apart at_i at_j. h (suc i) (suc j) a b (λ e. apart (omega (arith, e))) at_i at_j),
)

pub places_from_mutual : {X : Type 0} (R : X → X → Type 0) (xs : List X) → Mutual R xs → (i j : ℕ) (a b : X) → i ≢ j → slice_get xs i ≡ Some a
    → slice_get xs j ≡ Some b → R a b
places_from_mutual R [] h zero j a b apart at_i at_j = cc
places_from_mutual R [] h (suc i) j a b apart at_i at_j = cc
places_from_mutual R (x ∷ xs) h zero zero a b apart at_i at_j = absurd (apart refl)
places_from_mutual R (x ∷ xs) h zero (suc j) a b apart at_i at_j =
    let same : x ≡ a = cc at_i in let both = every_at (λ b. R x b × R b x) xs j b h.0 at_j in subst (λ y. R y b) same both.0
places_from_mutual R (x ∷ xs) h (suc i) zero a b apart at_i at_j =
    let same : x ≡ b = cc at_j in let both = every_at (λ b. R x b × R b x) xs i a h.0 at_i in subst (λ y. R a y) same both.1
places_from_mutual R (x ∷ xs) h (suc i) (suc j) a b apart at_i at_j =
    places_from_mutual R xs h.1 i j a b (λ e. apart (omega (arith, e))) at_i at_j
