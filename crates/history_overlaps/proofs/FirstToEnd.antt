-- The pending call that ends first.
use Rattle.std.proofs.Common.{◌≡◌, ℕ, zero, suc, ◌⊎◌, inl, inr, List, [], ◌∷◌, ◌++◌, Option, Some, None, arith, refl, slice_get, ap}
use Rattle.std.proofs.lemmas.Bool.Decides.{leb_tells}
use Rattle.history_reading.specs.declared.words.TimedCall.{TimedCall}
use Rattle.history_overlaps.specs.Followed.{IsFirstOf, end_of, sooner}

-- an item of a list with one more at its end
pub push_cases : {X : Type 0} (xs : List X) (x : X) (k : ℕ) (y : X) → slice_get (xs ++ x ∷ []) k ≡ Some y → (slice_get xs k ≡ Some y) ⊎ (x ≡ y)
push_cases [] x zero y is = inr (cc is)
push_cases [] x (suc zero) y is = absurd (cc is)
push_cases [] x (suc (suc k)) y is = absurd (cc is)
push_cases (z ∷ xs) x zero y is = inl is
push_cases (z ∷ xs) x (suc k) y is = push_cases xs x k y is

pub push_old : {X : Type 0} (xs : List X) (x : X) (k : ℕ) (y : X) → slice_get xs k ≡ Some y → slice_get (xs ++ x ∷ []) k ≡ Some y
push_old [] x zero y is = absurd (cc is)
push_old [] x (suc k) y is = absurd (cc is)
push_old (z ∷ xs) x zero y is = is
push_old (z ∷ xs) x (suc k) y is = push_old xs x k y is

pub push_new : {X : Type 0} (xs : List X) (x : X) → (k : ℕ) × (slice_get (xs ++ x ∷ []) k ≡ Some x)
push_new [] x = (0, refl)
push_new (z ∷ xs) x = let rest = push_new xs x in (suc rest.0, rest.1)

-- one more place
pub sooner_more : (calls : List TimedCall) (numbers : List (Option ℕ)) (first next : Option ℕ) → IsFirstOf calls numbers first
    → IsFirstOf calls (numbers ++ next ∷ []) (sooner calls first next)
sooner_more calls numbers None None is = λ place number at. elim (push_cases numbers None place (Some number) at) [
  | inl old ↦ is place number old
  | inr new ↦ cc new
]
sooner_more calls numbers None (Some two) is = (
  push_new numbers (Some two),
  λ place number at. elim (push_cases numbers (Some two) place (Some number) at) [
    | inl old ↦ absurd (is place number old)
    | inr new ↦ (let same : two ≡ number = cc new in let e = ap (end_of calls) same in omega (arith, e))
  ],
)
sooner_more calls numbers (Some one) None is = (
  (is.0.0, push_old numbers None is.0.0 (Some one) is.0.1),
  λ place number at. elim (push_cases numbers None place (Some number) at) [
    | inl old ↦ is.1 place number old
    | inr new ↦ absurd (cc new)
  ],
)
sooner_more calls numbers (Some one) (Some two) is = elim (leb_tells (suc (end_of calls two)) (end_of calls one)) [
  | inl less ↦ rw less.0 (
    push_new numbers (Some two),
    λ place number at. elim (push_cases numbers (Some two) place (Some number) at) [
      | inl old ↦ (let rest = is.1 place number old in let lt = less.1 in omega (arith, rest, lt))
      | inr new ↦ (let same : two ≡ number = cc new in let e = ap (end_of calls) same in omega (arith, e))
    ],
  )
  | inr more ↦ rw more.0 (
    (is.0.0, push_old numbers (Some two) is.0.0 (Some one) is.0.1),
    λ place number at. elim (push_cases numbers (Some two) place (Some number) at) [
      | inl old ↦ is.1 place number old
      | inr new ↦ (let same : two ≡ number = cc new in let e = ap (end_of calls) same in let le = more.1 in omega (arith, e, le))
    ],
  )
]
