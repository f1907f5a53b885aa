-- The words of a round.
use Rattle.std.proofs.Common.{◌≡◌, ℕ, zero, suc, ◌+◌, ◌-◌, ◌*◌, ◌≤◌, List, [], length, min, take, drop, ap, sym, ◌∙◌, arith, refl, inl, inr}
use Rattle.std.proofs.lemmas.Bool.Decides.{leb_tells}
use Rattle.std.proofs.lemmas.List.{length-drop, take_all}
use Rattle.mesh_lock.proofs.BuiltHistories.{drop_all}

-- as many as there are, or 256
few_words : (xs : List ℕ) (n : ℕ) → n ≡ min (length xs) 256 → take n xs ≡ take 256 xs
few_words xs n is = grind (arith, leb_tells 256 (length xs), take_all n xs, take_all 256 xs)

-- nothing of nothing
take_none : (n : ℕ) → take {A = ℕ} n [] ≡ []
take_none zero = refl
take_none (suc n) = refl

pub words_cut : (words : List ℕ) (round first end : ℕ) → first ≡ min (length words) (round * 256) → end ≡ min (length words) (first + 256)
    → take (end - first) (drop first words) ≡ take 256 (drop (256 * round) words)
words_cut words round first end begins ends = elim (leb_tells (256 * round) (length words)) [
  | inl within ↦ (
      let same : first ≡ 256 * round = omega (arith, begins, within.1) in
      few_words (drop first words) (end - first) (omega (arith, ends, length-drop first words)) ∙ ap (λ (k : ℕ). take 256 (drop k words)) same)
  | inr past ↦ (
      let p = past.1 in
      let all : length words ≤ first = omega (arith, begins, p) in
      let all' : length words ≤ 256 * round = omega (arith, p) in
      ap (λ (l : List ℕ). take (end - first) l) (drop_all words first all) ∙ take_none (end - first) ∙ ap (λ (l : List ℕ). take 256 l) (sym (drop_all words (256 * round) all')))
]
