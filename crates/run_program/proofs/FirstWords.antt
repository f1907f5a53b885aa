-- The first words of a generator, one after the other.
use Rattle.std.proofs.Common.{◌≡◌, ◌∙◌, ℕ, suc, List, [], ◌∷◌, ◌++◌, append_assoc, append-nil, ap, sym}
use Rattle.rand_core.specs.Steps.{first_words}

-- after a word, what has come and what is to come is what it was before
pub one_word_on : {S : Type 0} (step : S → ℕ × S) (words : List ℕ) (k n : ℕ) (s t : S) (word : ℕ) → (word, t) ≡ step s → n ≡ suc k
    → (words ++ word ∷ []) ++ first_words step k t ≡ words ++ first_words step n s
unfolding first_words
one_word_on {S} step words k n s t word is count =
    append_assoc words (word ∷ []) (first_words step k t) ∙ ap (λ (p : ℕ × S). words ++ p.0 ∷ first_words step k p.1) is
    ∙ ap (λ i. words ++ first_words step i s) (sym count)

-- no word more is to come
pub no_word_on : {S : Type 0} (step : S → ℕ × S) (words : List ℕ) (k : ℕ) (s : S) → k ≡ 0 → words ++ first_words step k s ≡ words
unfolding first_words
no_word_on step words k s none = ap (λ i. words ++ first_words step i s) none ∙ append-nil words
