-- Permutations and pairs of what is mapped.
use Rattle.std.proofs.Common.{◌≡◌, ℕ, zero, suc, ◌<◌, List, [], ◌∷◌, length, map, arith, refl, sym, subst, ◌∙◌, ap, get_or, set}
use Rattle.std.specs.List.{AllPairs, swap}
use Rattle.std.specs.List.Sorted.{IsPermutation}
use Rattle.std.proofs.lemmas.List.{get_or_default, length-map}
use Rattle.std.proofs.lemmas.List.Sorted.{IsPermutation-keeps, IsPermutation-refl, IsPermutation-trans}

-- ---- permutations of what is mapped

map-set : {X Y : Type 0} (f : X → Y) (xs : List X) (i : ℕ) (x : X) → map f (set xs i x) ≡ set (map f xs) i (f x)
map-set f [] i x = refl
map-set f (y ∷ xs) zero x = refl
map-set f (y ∷ xs) (suc i) x = ap (λ l. f y ∷ l) (map-set f xs i x)

map-get_or : {X Y : Type 0} (f : X → Y) (xs : List X) (i : ℕ) (d : X) → get_or (map f xs) i (f d) ≡ f (get_or xs i d)
map-get_or f [] i d = refl
map-get_or f (y ∷ xs) zero d = refl
map-get_or f (y ∷ xs) (suc i) d = map-get_or f xs i d

map-swap : {X Y : Type 0} (f : X → Y) (xs : List X) (i j : ℕ) → map f (swap xs i j) ≡ swap (map f xs) i j
map-swap f [] i j = refl
map-swap f (d ∷ ys) i j =
    map-set f (set (d ∷ ys) i (get_or (d ∷ ys) j d)) j (get_or (d ∷ ys) i d)
    ∙ ap (λ l. set l j (f (get_or (d ∷ ys) i d))) (map-set f (d ∷ ys) i (get_or (d ∷ ys) j d))
    ∙ ap (λ y. set (set (f d ∷ map f ys) i y) j (f (get_or (d ∷ ys) i d))) (sym (map-get_or f (d ∷ ys) j d))
    ∙ ap (λ y. set (set (f d ∷ map f ys) i (get_or (f d ∷ map f ys) j (f d))) j y) (sym (map-get_or f (d ∷ ys) i d))

swapped : {X : Type 0} (xs : List X) (i j : ℕ) → i < length xs → j < length xs → IsPermutation xs (swap xs i j)
swapped xs i j at_i at_j = record { moves = (i, j) ∷ []; below = (at_i, at_j, tt); is = refl }

-- what is mapped to a permutation is permuted itself
pub lifted : {X Y : Type 0} (f : X → Y) (xs : List X) (ys : List Y) → IsPermutation (map f xs) ys → (zs : List X) × IsPermutation xs zs × (map f zs ≡ ys)
lifted {X} {Y} f xs ys h = IsPermutation-keeps (map f xs) (λ l. (zs : List X) × IsPermutation xs zs × (map f zs ≡ l)) (xs, IsPermutation-refl xs, refl) exchanged ys h
  where
    exchanged : (l : List Y) (i j : ℕ) → i < length l → j < length l → (zs : List X) × IsPermutation xs zs × (map f zs ≡ l)
        → (zs : List X) × IsPermutation xs zs × (map f zs ≡ swap l i j)
    exchanged l i j at_i at_j s =
        let long : length s.0 ≡ length l = sym (length-map s.0 f) ∙ ap (λ (k : List Y). length k) s.2 in (
          swap s.0 i j,
          IsPermutation-trans xs s.0 (swap s.0 i j) s.1 (swapped s.0 i j (omega (arith, long, at_i)) (omega (arith, long, at_j))),
          map-swap f s.0 i j ∙ ap (λ (k : List Y). swap k i j) s.2,
        )

-- ---- pairs in what is mapped

pub all_pairs_mapped : {X Y : Type 0} (f : X → Y) (R : Y → Y → Type 0) (xs : List X) → AllPairs (λ a b. R (f a) (f b)) xs → AllPairs R (map f xs)
all_pairs_mapped f R [] h i j d before below = absurd (omega (arith, below))
all_pairs_mapped f R (x ∷ xs) h i j d before below =
    let long = length-map (x ∷ xs) f in
    subst (λ y. R y (get_or (map f (x ∷ xs)) j d)) (in_range i (omega (arith, before, below)))
    (subst (λ y. R (f (get_or (x ∷ xs) i x)) y) (in_range j (omega (arith, below))) (h i j x before (omega (arith, below, long))))
  where
    in_range : (k : ℕ) → k < length (map f (x ∷ xs)) → f (get_or (x ∷ xs) k x) ≡ get_or (map f (x ∷ xs)) k d
    in_range k within = sym (map-get_or f (x ∷ xs) k x) ∙ get_or_default (map f (x ∷ xs)) k (f x) d within

pub all_pairs_unmapped : {X Y : Type 0} (f : X → Y) (R : Y → Y → Type 0) (xs : List X) → AllPairs R (map f xs) → AllPairs (λ a b. R (f a) (f b)) xs
all_pairs_unmapped f R xs h i j d before below =
    let long = length-map xs f in
    subst (λ y. R y (f (get_or xs j d))) (map-get_or f xs i d) (subst (λ y. R (get_or (map f xs) i (f d)) y) (map-get_or f xs j d) (h i j (f d) before (omega (arith, below, long))))
