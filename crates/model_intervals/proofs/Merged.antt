-- The merge of two lists of keyed calls.
use Rattle.std.proofs.Common.{◌≡◌, ℕ, ◌≤◌, true, false, nat_eq, nat_le, cond, List, [], ◌∷◌, ◌++◌, arith, refl, sym, ap, ◌∙◌, inl, inr}
use Rattle.std.specs.List.Sorted.{IsPermutation}
use Rattle.std.proofs.lemmas.Bool.Decides.{leb_tells}
use Rattle.std.proofs.lemmas.List.Sorted.{IsPermutation-cons, IsPermutation-middle, IsPermutation-refl, IsPermutation-trans}
use Rattle.model_intervals.specs.Intervals.{Call}
use Rattle.model_intervals.specs.KeyedOrders.{Keyed, calls_of}
use Rattle.model_intervals.specs.OverlappingCalls.{cell_at}
use Rattle.model_intervals.proofs.MiddleForm.{of_cell}
use Rattle.model_intervals.proofs.Lists.{Every, Pairs, every_weaker, tells}

-- the first key is no greater than the second
abbrev pub Rises : Keyed → Keyed → Type 0
Rises front back = front.key ≤ back.key

-- the list with a call inserted in front of the first call whose key is no lower
abbrev pub put : Keyed → List Keyed → List Keyed
put p [] = p ∷ []
put p (q ∷ rest) = cond (nat_le p.key q.key) (p ∷ q ∷ rest) (q ∷ put p rest)

-- the merge of two lists; at equal keys the first list's calls come first
abbrev pub merge : List Keyed → List Keyed → List Keyed
merge [] others = others
merge (p ∷ rest) others = put p (merge rest others)

put_every : (P : Keyed → Type 0) (p : Keyed) (xs : List Keyed) → P p → Every P xs → Every P (put p xs)
put_every P p [] is h = (is, tt)
put_every P p (q ∷ xs) is h = elim (leb_tells p.key q.key) [
  | inl first ↦ rw first.0 (is, h)
  | inr later ↦ rw later.0 (h.0, put_every P p xs is h.1)
]

put_pairs : (p : Keyed) (xs : List Keyed) → Pairs Rises xs → Pairs Rises (put p xs)
put_pairs p [] h = (tt, tt)
put_pairs p (q ∷ xs) h = elim (leb_tells p.key q.key) [
  | inl first ↦ rw first.0 ((first.1, every_weaker (Rises q) (Rises p) xs (λ back le. omega (arith, le, first.1)) h.0), h)
  | inr later ↦ rw later.0 (put_every (Rises q) p xs (omega (arith, later.1)) h.0, put_pairs p xs h.1)
]

-- a fact of each element of both lists holds of each element of the merge
pub merge_every : (P : Keyed → Type 0) (xs ys : List Keyed) → Every P xs → Every P ys → Every P (merge xs ys)
merge_every P [] ys h k = k
merge_every P (p ∷ xs) ys h k = put_every P p (merge xs ys) h.0 (merge_every P xs ys h.1 k)

-- the merge is sorted if the second list is
pub merge_pairs : (xs ys : List Keyed) → Pairs Rises ys → Pairs Rises (merge xs ys)
merge_pairs [] ys h = h
merge_pairs (p ∷ xs) ys h = put_pairs p (merge xs ys) (merge_pairs xs ys h)

-- the merge is a permutation of both lists
put_same : (p : Keyed) (xs : List Keyed) → IsPermutation (p.call ∷ calls_of xs) (calls_of (put p xs))
put_same p [] = IsPermutation-refl (p.call ∷ [])
put_same p (q ∷ xs) = elim (leb_tells p.key q.key) [
  | inl first ↦ rw first.0 (IsPermutation-refl (p.call ∷ q.call ∷ calls_of xs))
  | inr later ↦ rw later.0 (IsPermutation-trans (p.call ∷ q.call ∷ calls_of xs) (q.call ∷ p.call ∷ calls_of xs) (q.call ∷ calls_of (put p xs))
      (IsPermutation-middle (p.call ∷ []) q.call (calls_of xs)) (IsPermutation-cons q.call (p.call ∷ calls_of xs) (calls_of (put p xs)) (put_same p xs)))
]

pub merge_same : (xs ys : List Keyed) → IsPermutation (calls_of xs ++ calls_of ys) (calls_of (merge xs ys))
merge_same [] ys = IsPermutation-refl (calls_of ys)
merge_same (p ∷ xs) ys = IsPermutation-trans (p.call ∷ (calls_of xs ++ calls_of ys)) (p.call ∷ calls_of (merge xs ys)) (calls_of (put p (merge xs ys)))
    (IsPermutation-cons p.call (calls_of xs ++ calls_of ys) (calls_of (merge xs ys)) (merge_same xs ys)) (put_same p (merge xs ys))

-- inserting a call of another cell does not change a cell's calls
put_other : (c : ℕ) (p : Keyed) (xs : List Keyed) → nat_eq (cell_at p.call) c ≡ false → of_cell c (calls_of (put p xs)) ≡ of_cell c (calls_of xs)
put_other c p [] other = rw other refl
put_other c p (q ∷ xs) other = elim (leb_tells p.key q.key) [
  | inl first ↦ rw (first.0, other) refl
  | inr later ↦ rw (later.0, put_other c p xs other) refl
]

-- a call is inserted in front of its cell's calls if none of them has a lower key
put_own : (c : ℕ) (p : Keyed) (xs : List Keyed) → nat_eq (cell_at p.call) c ≡ true
    → Every (λ q. nat_eq (cell_at q.call) c ≡ true → p.key ≤ q.key) xs → of_cell c (calls_of (put p xs)) ≡ p.call ∷ of_cell c (calls_of xs)
put_own c p [] own h = rw own refl
put_own c p (q ∷ xs) own h = elim (leb_tells p.key q.key) [
  | inl first ↦ rw (first.0, own) refl
  | inr later ↦ elim (tells (nat_eq (cell_at q.call) c)) [
    | inl own_too ↦ let le = h.0 own_too in absurd (omega (arith, le, later.1))
    | inr other ↦ rw (later.0, other) (put_own c p xs own h.1)
  ]
]

-- if the first list has no calls of a cell, the merge has those of the second list
pub merge_other : (c : ℕ) (xs ys : List Keyed) → Every (λ p. nat_eq (cell_at p.call) c ≡ false) xs → of_cell c (calls_of (merge xs ys)) ≡ of_cell c (calls_of ys)
merge_other c [] ys h = refl
merge_other c (p ∷ xs) ys h = put_other c p (merge xs ys) h.0 ∙ merge_other c xs ys h.1

-- if the second list has no calls of a cell, and the first list is sorted and has no others, the merge has the first
-- list in its order
pub merge_own : (c : ℕ) (xs ys : List Keyed) → Every (λ p. nat_eq (cell_at p.call) c ≡ true) xs → Pairs Rises xs
    → Every (λ p. nat_eq (cell_at p.call) c ≡ false) ys → of_cell c (calls_of ys) ≡ [] → of_cell c (calls_of (merge xs ys)) ≡ calls_of xs
merge_own c [] ys own rise others none = none
merge_own c (p ∷ xs) ys own rise others none =
    put_own c p (merge xs ys) own.0 (merge_every (λ q. nat_eq (cell_at q.call) c ≡ true → p.key ≤ q.key) xs ys
    (every_weaker (Rises p) (λ q. nat_eq (cell_at q.call) c ≡ true → p.key ≤ q.key) xs (λ q le own_too. le) rise.0)
    (every_weaker (λ q. nat_eq (cell_at q.call) c ≡ false) (λ q. nat_eq (cell_at q.call) c ≡ true → p.key ≤ q.key) ys
    (λ q other own_too. let clash : true ≡ false = sym own_too ∙ other in cc clash) others))
    ∙ ap (λ (rest : List Call). p.call ∷ rest) (merge_own c xs ys own.1 rise.1 others none)
