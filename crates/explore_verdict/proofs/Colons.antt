-- A text with two colons.
use Rattle.std.proofs.Common.{◌≡◌, ◌∙◌, ◌∷◌, [], ◌+◌, ℕ, true, List, Option, None, Some, IfSome, ap, arith, is_some, length, nat_eq, refl, sym}
use Rattle.std.proofs.lemmas.List.Splits.{length-slice_split}
use Rattle.std.specs.List.{count_by, slice_split}
use Rattle.explore_verdict.specs.Patterns.{of_sides, sides_of}

-- what is between colons
abbrev sides : List ℕ → List (List ℕ)
sides text = slice_split (λ b. nat_eq b 58) text

-- there is always something
some_side : (text : List ℕ) → sides text ≡ [] → ⊥
some_side text none =
    let long : length (sides text) ≡ count_by (λ b. nat_eq b 58) text + 1 = length-slice_split (λ b. nat_eq b 58) text in
    let short : length (sides text) ≡ 0 = ap length none in
    omega (arith, long, short)

-- behind two colons there is a third side, which spells no pattern
pub two_colons : {P : Type 0} (front back : P → List ℕ) (text number answers : List ℕ) (found : Option P) → sides text ≡ number ∷ sides answers
    → IfSome found (λ p. sides answers ≡ front p ∷ sides (back p)) → is_some found ≡ true → None ≡ sides_of text
two_colons front back text number answers None cut again is = absurd (cc is)
two_colons front back text number answers (Some p) cut again is = go (sides (back p)) refl
  where
    go : (rest : List (List ℕ)) → sides (back p) ≡ rest → None ≡ of_sides (sides text)
    go [] e = absurd (some_side (back p) e)
    go (more ∷ others) e = sym (ap of_sides (cut ∙ ap (λ (xs : List (List ℕ)). number ∷ xs) (again ∙ ap (λ (xs : List (List ℕ)). front p ∷ xs) e)))
