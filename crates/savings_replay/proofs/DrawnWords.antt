-- The words of a generator, one after the other.
use Rattle.std.proofs.Common.{◌≡◌, ◌∙◌, ℕ, suc, List, [], ◌∷◌, ◌++◌, append_assoc, append-nil, ap, sym}
use Rattle.rand_core.specs.Steps.{first_words}
use Rattle.rand_xoshiro.specs.Xoshiro256.{plus_plus}
use Rattle.savings_replay.specs.Words.{after_words}

-- after a word, what has come and what is to come is what it was before
pub one_word_on : (words : List ℕ) (k n : ℕ) (s t : List ℕ) (word : ℕ) → (word, t) ≡ plus_plus s → n ≡ suc k
    → (words ++ word ∷ []) ++ first_words plus_plus k t ≡ words ++ first_words plus_plus n s
unfolding first_words
one_word_on words k n s t word is count =
    append_assoc words (word ∷ []) (first_words plus_plus k t) ∙ ap (λ (p : ℕ × List ℕ). words ++ p.0 ∷ first_words plus_plus k p.1) is
    ∙ ap (λ i. words ++ first_words plus_plus i s) (sym count)

-- no word more is to come
pub no_word_on : (words : List ℕ) (k : ℕ) (s : List ℕ) → k ≡ 0 → words ++ first_words plus_plus k s ≡ words
unfolding first_words
no_word_on words k s none = ap (λ i. words ++ first_words plus_plus i s) none ∙ append-nil words

-- after a word, as many fewer are left to the same state
pub one_state_on : (k n : ℕ) (s t : List ℕ) (word : ℕ) → (word, t) ≡ plus_plus s → n ≡ suc k → after_words k t ≡ after_words n s
one_state_on k n s t word is count = ap (λ (p : ℕ × List ℕ). after_words k p.1) is ∙ ap (λ i. after_words i s) (sym count)
