-- The last line of a text, and the end of what has begun before it.
use Rattle.std.proofs.Common.{◌≡◌, ◌∙◌, ◌++◌, ◌∷◌, [], ℕ, List, Option, ap, sym}

-- `from` gives what lines add to what has begun, and `closing` what is added at the end
pub finished : {S : Type 0} (from : Option S → List (List ℕ) → List (List ℕ)) (closing : Option S → List (List ℕ))
    → ((begun : Option S) → closing begun ≡ from begun []) → (done done' done'' all lines : List (List ℕ)) (begun begun' : Option S) (rest : List ℕ) → lines ≡ rest ∷ []
    → done ++ from begun lines ≡ all → done' ++ from begun' [] ≡ done ++ from begun (rest ∷ []) → done'' ≡ done' ++ closing begun'
    → done'' ≡ all
finished from closing ends done done' done'' all lines begun begun' rest last before took closed =
    closed ∙ (ap (λ (ts : List (List ℕ)). done' ++ ts) (ends begun')
    ∙ (took ∙ (ap (λ (ls : List (List ℕ)). done ++ from begun ls) (sym last) ∙ before)))
