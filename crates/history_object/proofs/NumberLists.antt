-- Lists of numbers: what is in them, and that each is in them once.
use Rattle.std.proofs.Common.{◌≡◌, ◌⊎◌, inl, inr, ℕ, ◌<◌, List, [], ◌∷◌, ◌++◌, ap, subst, refl, sym}
use Rattle.std.specs.List.Sorted.{IsPermutation}
use Rattle.std.proofs.lemmas.List.Sorted.{IsPermutation-cons, IsPermutation-middle, IsPermutation-refl, IsPermutation-sym, IsPermutation-trans}
use Rattle.history_object.specs.Carried.{AreBelow}
use Rattle.history_object.specs.Orders.{IsEachOnce, IsIn}
use Rattle.history_object.proofs.Pairs.{Every}

-- what holds of each holds of one
pub every_in : (P : ℕ → Type 0) (ns : List ℕ) (i : ℕ) → Every P ns → IsIn i ns → P i
every_in P [] i every at = absurd at
every_in P (n ∷ ns) i every at = elim at [ inl same ↦ subst P same every.0 | inr later ↦ every_in P ns i every.1 later ]

pub every_is_below : (calls : ℕ) (ns : List ℕ) → Every (λ n. n < calls) ns → AreBelow calls ns
every_is_below calls [] every = tt
every_is_below calls (n ∷ ns) every = (every.0, every_is_below calls ns every.1)

-- of two lists, one behind the other
pub in_either : (i : ℕ) (front back : List ℕ) → IsIn i (front ++ back) → IsIn i front ⊎ IsIn i back
in_either i [] back at = inr at
in_either i (n ∷ front) back at = elim at [
  | inl same ↦ inl (inl same)
  | inr later ↦ elim (in_either i front back later) [ inl here ↦ inl (inr here) | inr there ↦ inr there ]
]

pub in_front : (i : ℕ) (front back : List ℕ) → IsIn i front → IsIn i (front ++ back)
in_front i [] back at = absurd at
in_front i (n ∷ front) back at = elim at [ inl same ↦ inl same | inr later ↦ inr (in_front i front back later) ]

pub once_front : (front back : List ℕ) → IsEachOnce (front ++ back) → IsEachOnce front
once_front [] back once = tt
once_front (n ∷ front) back once = ((λ at. once.0 (in_front n front back at)), once_front front back once.1)

-- one in the middle, and the others
pub at_middle : (n : ℕ) (front back : List ℕ) → IsIn n (front ++ n ∷ back)
at_middle n [] back = inl refl
at_middle n (x ∷ front) back = inr (at_middle n front back)

to_middle : (i n : ℕ) (front back : List ℕ) → IsIn i (front ++ back) → IsIn i (front ++ n ∷ back)
to_middle i n [] back at = inr at
to_middle i n (x ∷ front) back at = elim at [ inl same ↦ inl same | inr later ↦ inr (to_middle i n front back later) ]

from_middle : (i n : ℕ) (front back : List ℕ) → IsIn i (front ++ n ∷ back) → (n ≡ i) ⊎ IsIn i (front ++ back)
from_middle i n [] back at = at
from_middle i n (x ∷ front) back at = elim at [
  | inl same ↦ inr (inl same)
  | inr later ↦ elim (from_middle i n front back later) [ inl here ↦ inl here | inr other ↦ inr (inr other) ]
]

once_middle : (n : ℕ) (front back : List ℕ) → IsEachOnce (front ++ n ∷ back) → IsEachOnce (front ++ back) × (IsIn n (front ++ back) → ⊥)
once_middle n [] back once = (once.1, once.0)
once_middle n (x ∷ front) back once = (
    let rest = once_middle n front back once.1 in (
      ((λ at. once.0 (to_middle x n front back at)), rest.0),
      λ at. elim at [ inl same ↦ once.0 (subst (λ k. IsIn k (front ++ n ∷ back)) (sym same) (at_middle n front back)) | inr later ↦ rest.1 later ],
    ))

split_at : (n : ℕ) (ms : List ℕ) → IsIn n ms → (front back : List ℕ) × (ms ≡ front ++ n ∷ back)
split_at n [] at = absurd at
split_at n (m ∷ ms) at = elim at [
  | inl same ↦ ([], ms, ap (λ (k : ℕ). k ∷ ms) same)
  | inr later ↦ (let rest = split_at n ms later in (m ∷ rest.0, rest.1, ap (λ (ks : List ℕ). m ∷ ks) rest.2))
]

-- where one list has the same numbers as the other around one of them
abbrev AreSame : List ℕ → Type 0
AreSame ns = (ms : List ℕ) → IsEachOnce ns → IsEachOnce ms → ((i : ℕ) → IsIn i ns → IsIn i ms) → ((i : ℕ) → IsIn i ms → IsIn i ns) → IsPermutation ns ms

same_around : (n : ℕ) (ns front back : List ℕ) → AreSame ns → IsEachOnce (n ∷ ns) → IsEachOnce (front ++ n ∷ back) → ((i : ℕ) → IsIn i (n ∷ ns) → IsIn i (front ++ n ∷ back))
    → ((i : ℕ) → IsIn i (front ++ n ∷ back) → IsIn i (n ∷ ns)) → IsPermutation (n ∷ ns) (front ++ n ∷ back)
same_around n ns front back rest once once' to from =
    let apart = once_middle n front back once' in
    let others : IsPermutation ns (front ++ back) = rest (front ++ back) once.1 apart.0
    (λ i at. elim (from_middle i n front back (to i (inr at))) [
      | inl same ↦ absurd (once.0 (subst (λ k. IsIn k ns) (sym same) at))
      | inr other ↦ other
    ])
    (λ i at. elim (from i (to_middle i n front back at)) [
      | inl same ↦ absurd (apart.1 (subst (λ k. IsIn k (front ++ back)) (sym same) at))
      | inr other ↦ other
    ]) in
    IsPermutation-trans (n ∷ ns) (n ∷ (front ++ back)) (front ++ n ∷ back) (IsPermutation-cons n ns (front ++ back) others)
    (IsPermutation-sym (front ++ n ∷ back) (n ∷ (front ++ back)) (IsPermutation-middle front n back))

-- two lists that have the same numbers, each once, have them in two orders
pub same_numbers : (ns ms : List ℕ) → IsEachOnce ns → IsEachOnce ms → ((i : ℕ) → IsIn i ns → IsIn i ms) → ((i : ℕ) → IsIn i ms → IsIn i ns) → IsPermutation ns ms
same_numbers [] [] once once' to from = IsPermutation-refl []
same_numbers [] (m ∷ ms) once once' to from = absurd (from m (inl refl))
same_numbers (n ∷ ns) ms once once' to from =
    let split = split_at n ms (to n (inl refl)) in
    subst (λ ks. IsPermutation (n ∷ ns) ks) (sym split.2)
    (same_around n ns split.0 split.1 (λ ks a b c d. same_numbers ns ks a b c d) once (subst (λ ks. IsEachOnce ks) split.2 once')
    (λ i at. subst (λ ks. IsIn i ks) split.2 (to i at)) (λ i at. from i (subst (λ ks. IsIn i ks) (sym split.2) at)))
