-- Lists that are listed number by number.
use Rattle.std.proofs.Common.{◌≡◌, ℕ, ◌+◌, List, ◌++◌, Result, Ok, Err, OnOk, append_assoc, ap, refl, sym, ◌∙◌}
use native.Mathlib.Numerals.{unary_clauses}
use Rattle.draw_picture.specs.Objects.{below}

module _ {A : Type 0} (list : ℕ → List A) where
  -- the list of one more number
  pub below_more : (n : ℕ) → below (n + 1) list ≡ below n list ++ list n
  below_more n = simp unary_clauses refl

  -- a list that grew by that of the next number
  pub rows_more : (n : ℕ) (old now new : List A) → now ≡ old ++ below n list → new ≡ now ++ list n → new ≡ old ++ below (n + 1) list
  rows_more n old now new at more = more ∙ ap (λ rows. rows ++ list n) at ∙ append_assoc old (below n list) (list n) ∙ ap (λ rows. old ++ rows) (sym (below_more n))

-- a list that grew by two others, one after the other
two_more : {A : Type 0} (old one new x y : List A) → one ≡ old ++ x → new ≡ one ++ y → new ≡ old ++ (x ++ y)
two_more old one new x y first second = second ∙ ap (λ rows. rows ++ y) first ∙ append_assoc old x y

-- a list that grew by three others, one after the other
three_more : {A : Type 0} (old one two new x y z : List A) → one ≡ old ++ x → two ≡ one ++ y → new ≡ two ++ z → new ≡ old ++ (x ++ y ++ z)
three_more old one two new x y z first second third =
    two_more old two new (x ++ y) z (two_more old one two x y first second) third

-- the same with four lists, where the last one is added on success
pub ok_four_more : {A E : Type 0} (result : Result (Unit {0}) E) (old one two three new x y z u : List A) → one ≡ old ++ x → two ≡ one ++ y
    → three ≡ two ++ z → OnOk result (new ≡ three ++ u) → OnOk result (new ≡ old ++ (x ++ y ++ z ++ u))
ok_four_more (Ok done) old one two three new x y z u first second third fourth =
    three_more old two three new (x ++ y) z u (two_more old one two x y first second) third fourth
ok_four_more (Err error) old one two three new x y z u first second third fourth = tt
