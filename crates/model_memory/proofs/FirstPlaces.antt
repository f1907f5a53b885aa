-- What is told of one place of one seat, the first of the least seat, is told once.
use Rattle.std.proofs.Common.{◌≡◌, ℕ, ◌<◌, arith}
use Rattle.std.proofs.lemmas.Bool.Decides.{nat_tests}

-- numbers of which neither is below the other are one
pub neither_below : (a b : ℕ) → (a < b → ⊥) → (b < a → ⊥) → a ≡ b
neither_below a b not_below not_above = grind (arith, nat_tests)

-- where no seat that is told is below another one, nor a place of one seat below another, seat and place are one
pub told_once : (P : ℕ → ℕ → Type 0) → ((w i v j : ℕ) → P w i → P v j → v < w → ⊥) → ((w i j : ℕ) → P w i → P w j → j < i → ⊥)
    → (w i v j : ℕ) → P w i → P v j → (w ≡ v) × (i ≡ j)
told_once P seats places w i v j at_w at_v = grind (arith, nat_tests, neither_below v w, neither_below i j)
