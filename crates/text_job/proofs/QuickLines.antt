-- What is known of a line that is read in one pass.
use Rattle.std.proofs.Common.{◌≡◌, ℕ, ◌-◌, ◌≤◌, List, [], ◌∷◌, Option, Some, None, length, get_or, take, drop, ap, arith}
use Rattle.std.specs.Prelude.{IfSome}
use Rattle.std.proofs.lemmas.List.{take_all}

-- what is known of a value, if there is one, of which more is known
pub some_weaker : {A : Type 0} (o : Option A) (P Q : A → Type 0) → ((x : A) → P x → Q x) → IfSome o P → IfSome o Q
some_weaker None P Q weaker known = known
some_weaker (Some x) P Q weaker known = weaker x known

-- a text of four bytes at least by them and the rest
pub four_first : (text : List ℕ) → 4 ≤ length text
    → get_or text 0 0 ∷ get_or text 1 0 ∷ get_or text 2 0 ∷ get_or text 3 0 ∷ take (length text - 4) (drop 4 text) ≡ text
four_first [] some = absurd (omega (arith, some))
four_first (a ∷ []) some = absurd (omega (arith, some))
four_first (a ∷ b ∷ []) some = absurd (omega (arith, some))
four_first (a ∷ b ∷ c ∷ []) some = absurd (omega (arith, some))
four_first (a ∷ b ∷ c ∷ d ∷ rest) some = ap (λ (r : List ℕ). a ∷ b ∷ c ∷ d ∷ r) (take_all _ rest (omega arith))
