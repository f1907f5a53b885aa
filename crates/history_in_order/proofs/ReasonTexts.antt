-- The texts of reasons.
use Rattle.std.proofs.Common.{◌≡◌, ℕ, List, ◌++◌, append_assoc, decimal, ap, ◌∙◌}

-- words and a number
pub number_told : (old mid new words : List ℕ) (n k : ℕ) → n ≡ k → mid ≡ old ++ words → new ≡ mid ++ decimal n → new ≡ old ++ (words ++ decimal k)
number_told old mid new words n k same first last =
    last ∙ ap (λ (bytes : List ℕ). bytes ++ decimal n) first ∙ append_assoc old words (decimal n) ∙ ap (λ (m : ℕ). old ++ (words ++ decimal m)) same

-- words and a number, twice
pub numbers_told : (old one two three new words more : List ℕ) (n k n' k' : ℕ) → n ≡ k → n' ≡ k' → one ≡ old ++ words → two ≡ one ++ decimal n → three ≡ two ++ more
    → new ≡ three ++ decimal n' → new ≡ old ++ (((words ++ decimal k) ++ more) ++ decimal k')
numbers_told old one two three new words more n k n' k' same same' first second third last =
    last ∙ ap (λ (bytes : List ℕ). bytes ++ decimal n') (third ∙ ap (λ (bytes : List ℕ). bytes ++ more) (number_told old one two words n k same first second))
    ∙ ap (λ (bytes : List ℕ). bytes ++ decimal n') (append_assoc old (words ++ decimal k) more) ∙ append_assoc old ((words ++ decimal k) ++ more) (decimal n')
    ∙ ap (λ (m : ℕ). old ++ (((words ++ decimal k) ++ more) ++ decimal m)) same'
