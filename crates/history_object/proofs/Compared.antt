-- How two numbers compare, as their tests tell.
use Rattle.std.proofs.Common.{◌≡◌, ℕ, suc, ◌<◌, true, false, nat_eq, nat_lt, arith, inl, inr}
use Rattle.std.proofs.lemmas.Bool.Decides.{eqb_tells, leb_tells}

pub data Compared (a b : ℕ) : Type 0 where
  less : nat_lt a b ≡ true → a < b → Compared a b
  same : nat_lt a b ≡ false → nat_eq a b ≡ true → a ≡ b → Compared a b
  more : nat_lt a b ≡ false → nat_eq a b ≡ false → b < a → Compared a b

pub compared : (a b : ℕ) → Compared a b
compared a b = elim (leb_tells (suc a) b) [
  | inl is ↦ (let below = is.1 in less is.0 (omega (arith, below)))
  | inr not ↦ elim (eqb_tells a b) [
    | inl is ↦ same not.0 is.0 is.1
    | inr apart ↦ (let above = not.1 in let ne = apart.1 in more not.0 apart.0 (omega (arith, above, ne)))
  ]
]
