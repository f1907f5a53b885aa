-- The line about a file that can't be opened, part by part.
use Rattle.std.proofs.Common.{◌≡◌, ◌≤◌, ◌+◌, ◌++◌, ◌∷◌, [], List, ℕ, codes, length, length-append, ap, arith, ◌∙◌}
use Rattle.model_jobs.specs.Texts.{ended}

-- each part was added, because there was room for it
pub line_added : (name words l0 l1 l2 l3 l4 : List ℕ) → l0 ≡ [] → length name ≤ 4096 → length words ≤ 256
    → (length l0 + length name ≤ 4608 → l1 ≡ l0 ++ name) → (length l1 + 2 ≤ 4608 → l2 ≡ l1 ++ codes ": ")
    → (length l2 + length words ≤ 4608 → l3 ≡ l2 ++ words) → (length l3 + 1 ≤ 4608 → l4 ≡ l3 ++ 10 ∷ [])
    → l4 ≡ ended (name ++ codes ": " ++ words)
line_added name words l0 l1 l2 l3 l4 none short few one two three four =
    let front = name ++ codes ": " in
    let empty : length l0 ≡ 0 = ap (λ (l : List ℕ). length l) none in
    let is1 : l1 ≡ name = one (omega (arith, empty, short)) ∙ ap (λ (l : List ℕ). l ++ name) none in
    let many1 : length l1 ≡ length name = ap (λ (l : List ℕ). length l) is1 in
    let is2 : l2 ≡ front = two (omega (arith, many1, short)) ∙ ap (λ (l : List ℕ). l ++ codes ": ") is1 in
    let many2 : length l2 ≡ length name + 2 = ap (λ (l : List ℕ). length l) is2 ∙ length-append name (codes ": ") in
    let is3 : l3 ≡ front ++ words = three (omega (arith, many2, short, few)) ∙ ap (λ (l : List ℕ). l ++ words) is2 in
    let many3 : length l3 ≡ length front + length words = ap (λ (l : List ℕ). length l) is3 ∙ length-append front words in
    let many : length front ≡ length name + 2 = length-append name (codes ": ") in
    four (omega (arith, many3, many, short, few)) ∙ ap (λ (l : List ℕ). l ++ 10 ∷ []) is3
