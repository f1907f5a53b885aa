-- Rows that are listed number by number.
use Rattle.std.proofs.Common.{◌≡◌, ℕ, ◌+◌, List, ◌++◌, append_assoc, ap, refl, sym, ◌∙◌}
use native.Mathlib.Numerals.{unary_clauses}
use Rattle.draw_job.specs.Frames.{below}

module _ {A : Type 0} (list : ℕ → List A) where
  -- the rows of one more number
  pub below_more : (n : ℕ) → below (n + 1) list ≡ below n list ++ list n
  below_more n = simp unary_clauses refl

  -- rows that grew by those of the next number
  pub rows_more : (n : ℕ) (old now new : List A) → now ≡ old ++ below n list → new ≡ now ++ list n → new ≡ old ++ below (n + 1) list
  rows_more n old now new at more = more ∙ ap (λ rows. rows ++ list n) at ∙ append_assoc old (below n list) (list n) ∙ ap (λ rows. old ++ rows) (sym (below_more n))
