-- What is left of a list behind a place.
use Rattle.std.proofs.Common.{◌≡◌, ◌∙◌, ◌+◌, ◌∷◌, [], ℕ, zero, suc, List, Some, ap, arith, drop, slice_get}

-- what is left from a place on begins with what is there
drop_next : {A : Type 0} (xs : List A) (i : ℕ) (x : A) → slice_get xs i ≡ Some x → drop i xs ≡ x ∷ drop (suc i) xs
drop_next [] i x h = cc
drop_next (y ∷ xs) zero x h = cc
drop_next (y ∷ xs) (suc i) x h = drop_next xs i x h

pub drop_at : {A : Type 0} (xs : List A) (i : ℕ) (x : A) → slice_get xs i ≡ Some x → drop i xs ≡ x ∷ drop (i + 1) xs
drop_at xs i x h =
    let one : suc i ≡ i + 1 = omega arith in
    drop_next xs i x h ∙ ap (λ (k : ℕ). x ∷ drop k xs) one
