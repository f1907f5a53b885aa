-- Marks and calls at the places of lists.
use Rattle.std.proofs.Common.{◌≡◌, ◌≢◌, ℕ, zero, suc, ◌<◌, Bool, false, List, [], ◌∷◌, Option, Some, length, slice_set, slice_index_or, ap, refl, arith}
use Rattle.history_object.specs.Standings.{call_at}

pub set_other : {A : Type 0} → (xs : List A) (p q : ℕ) (v d : A) → p ≢ q → slice_index_or (slice_set xs p v) q d ≡ slice_index_or xs q d
set_other [] p q v d other = refl
set_other (x ∷ xs) zero zero v d other = absurd (other refl)
set_other (x ∷ xs) zero (suc q) v d other = refl
set_other (x ∷ xs) (suc p) zero v d other = refl
set_other (x ∷ xs) (suc p) (suc q) v d other = set_other xs p q v d (λ e. other (ap suc e))

-- a mark that is taken away is none, at whatever place
pub unset_here : (xs : List Bool) (p : ℕ) → slice_index_or (slice_set xs p false) p false ≡ false
unset_here [] p = refl
unset_here (x ∷ xs) zero = refl
unset_here (x ∷ xs) (suc p) = unset_here xs p

-- two lists of one length have the same there, once it was set
pub set_here : {A : Type 0} → (xs ys : List A) (p : ℕ) (v d : A) → length xs ≡ length ys → slice_index_or (slice_set xs p v) p d ≡ slice_index_or (slice_set ys p v) p d
set_here [] [] p v d e = refl
set_here [] (y ∷ ys) p v d e = absurd (omega (arith, e))
set_here (x ∷ xs) [] p v d e = absurd (omega (arith, e))
set_here (x ∷ xs) (y ∷ ys) zero v d e = refl
set_here (x ∷ xs) (y ∷ ys) (suc p) v d e = set_here xs ys p v d (omega (arith, e))

-- what is set at two places may be set in either order
pub set_swap : {A : Type 0} → (xs : List A) (p q : ℕ) (v w : A) → p ≢ q → slice_set (slice_set xs p v) q w ≡ slice_set (slice_set xs q w) p v
set_swap [] p q v w other = refl
set_swap (x ∷ xs) zero zero v w other = absurd (other refl)
set_swap (x ∷ xs) zero (suc q) v w other = refl
set_swap (x ∷ xs) (suc p) zero v w other = refl
set_swap (x ∷ xs) (suc p) (suc q) v w other = ap (λ (ys : List _). x ∷ ys) (set_swap xs p q v w (λ e. other (ap suc e)))

pub length_set : {A : Type 0} → (xs : List A) (p : ℕ) (v : A) → length (slice_set xs p v) ≡ length xs
length_set [] p v = refl
length_set (x ∷ xs) zero v = refl
length_set (x ∷ xs) (suc p) v = ap suc (length_set xs p v)

pub called_other : {C : Type 0} → (xs : List (Option C)) (p q : ℕ) (v : Option C) → p ≢ q → call_at (slice_set xs p v) q ≡ call_at xs q
called_other [] p q v other = refl
called_other (x ∷ xs) zero zero v other = absurd (other refl)
called_other (x ∷ xs) zero (suc q) v other = refl
called_other (x ∷ xs) (suc p) zero v other = refl
called_other (x ∷ xs) (suc p) (suc q) v other = called_other xs p q v (λ e. other (ap suc e))

pub called_within : {C : Type 0} → (xs : List (Option C)) (p : ℕ) (x : C) → call_at xs p ≡ Some x → p < length xs
called_within [] p x h = cc
called_within (y ∷ xs) zero x h = omega arith
called_within (y ∷ xs) (suc p) x h = let lt = called_within xs p x h in omega (arith, lt)
