-- Rows that are listed number by number.
use Rattle.std.proofs.Common.{◌≡◌, ℕ, ◌+◌, List, ◌++◌, append_assoc, ap, sym, ◌∙◌}
use Rattle.std.specs.List.{flat_map, range_with_len}
use Rattle.explore_otherwise.proofs.Ranges.{flat_more}

-- rows that grew by those of the next number
pub rows_more : {X : Type 0} (f : ℕ → List X) (n : ℕ) (old now new : List X)
    → now ≡ old ++ flat_map f (range_with_len 0 n) → new ≡ now ++ f n → new ≡ old ++ flat_map f (range_with_len 0 (n + 1))
rows_more f n old now new at more =
    more ∙ ap (λ rows. rows ++ f n) at ∙ append_assoc old (flat_map f (range_with_len 0 n)) (f n)
    ∙ ap (λ rows. old ++ rows) (sym (flat_more f n))
