-- How many words a generator gives, and how they go on.
use Rattle.std.proofs.Common.{◌≡◌, ℕ, zero, suc, ◌+◌, List, ◌∷◌, length, take, ap, refl, arith}
use Rattle.rand_core.specs.Steps.{first_words}

-- as many words as are asked for
pub words_counted : {S : Type 0} (step : S → ℕ × S) (k : ℕ) (s : S) → length (first_words step k s) ≡ k
unfolding first_words
words_counted step zero s = refl
words_counted step (suc k) s = ap (λ (n : ℕ). suc n) (words_counted step k (step s).1)

-- more words begin with fewer
pub words_begin : {S : Type 0} (step : S → ℕ × S) (k more : ℕ) (s : S) → take k (first_words step (k + more) s) ≡ first_words step k s
unfolding first_words
words_begin step zero more s = refl
words_begin step (suc k) more s =
    let later : suc k + more ≡ suc (k + more) = omega arith in
    rw later (ap (λ (words : List ℕ). (step s).0 ∷ words) (words_begin step k more (step s).1))
