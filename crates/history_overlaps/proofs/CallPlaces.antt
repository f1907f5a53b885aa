-- The places of calls in a list that grows.
use Rattle.std.proofs.Common.{◌≡◌, ℕ, zero, suc, ◌+◌, ◌<◌, ◌⊎◌, inl, inr, List, [], ◌∷◌, ◌++◌, length, arith, refl, Some, slice_get}

module _ {X : Type 0} where
  -- a place in front
  pub at_front : (xs ys : List X) (i : ℕ) (a : X) → slice_get xs i ≡ Some a → slice_get (xs ++ ys) i ≡ Some a
  at_front [] ys zero a is = cc
  at_front [] ys (suc i) a is = cc
  at_front (x ∷ xs) ys zero a is = is
  at_front (x ∷ xs) ys (suc i) a is = at_front xs ys i a is

  pub at_below : (xs : List X) (i : ℕ) (a : X) → slice_get xs i ≡ Some a → i < length xs
  at_below [] zero a is = cc
  at_below [] (suc i) a is = cc
  at_below (x ∷ xs) zero a is = omega arith
  at_below (x ∷ xs) (suc i) a is = let below = at_below xs i a is in omega (arith, below)

  -- a place is in front or behind
  pub at_either : (xs ys : List X) (i : ℕ) (a : X) → slice_get (xs ++ ys) i ≡ Some a
      → (slice_get xs i ≡ Some a) ⊎ ((k : ℕ) × (i ≡ length xs + k) × (slice_get ys k ≡ Some a))
  at_either [] ys i a is = inr (i, omega arith, is)
  at_either (x ∷ xs) ys zero a is = inl is
  at_either (x ∷ xs) ys (suc i) a is = elim (at_either xs ys i a is) [
    | inl front ↦ inl front
    | inr back ↦ inr (back.0, (let e = back.1 in omega (arith, e)), back.2)
  ]

  pub at_end : (xs : List X) (x : X) → slice_get (xs ++ x ∷ []) (length xs) ≡ Some x
  at_end [] x = refl
  at_end (y ∷ xs) x = at_end xs x

  -- a place is an old one or that of the last
  pub at_one : (xs : List X) (x : X) (i : ℕ) (a : X) → slice_get (xs ++ x ∷ []) i ≡ Some a
      → (slice_get xs i ≡ Some a) ⊎ ((i ≡ length xs) × (x ≡ a))
  at_one xs x i a is = elim (at_either xs (x ∷ []) i a is) [
    | inl front ↦ inl front
    | inr back ↦ inr (last back.0 back.1 back.2)
  ]
    where
      last : (k : ℕ) → i ≡ length xs + k → slice_get (x ∷ []) k ≡ Some a → (i ≡ length xs) × (x ≡ a)
      last zero e is = (omega (arith, e), cc)
      last (suc zero) e is = cc
      last (suc (suc k)) e is = cc

  -- one place has one element
  pub at_same : (xs : List X) (i : ℕ) (a b : X) → slice_get xs i ≡ Some a → slice_get xs i ≡ Some b → a ≡ b
  at_same xs i a b here there = cc
