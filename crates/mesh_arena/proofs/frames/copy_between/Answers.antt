use Rattle.std.proofs.Common.{◌≡◌, ℕ, ◌-◌, ◌<◌, ◌++◌, [], arith, length, List, set, get_or, ap, sym, ◌∙◌}
use Rattle.std.proofs.lemmas.List.{get_or_default, get_or_append_left, get_or-append_right, set-append_left, set-append_right}
use Rattle.mesh_arena.proofs.frames.copy_between.Goals as goal

-- a frame of the first part
low_is : (a low high : List (List ℕ)) (i : ℕ) (d : List ℕ) → a ≡ low ++ high → i < length low → get_or low i d ≡ get_or a i []
low_is a low high i d e l = get_or_default low i d [] l ∙ sym (get_or_append_left low high [] i l) ∙ ap (λ (s : List (List ℕ)). get_or s i []) (sym e)

-- the first frame of the second part
high_is : (a low high : List (List ℕ)) (i : ℕ) (d : List ℕ) → a ≡ low ++ high → length low ≡ i → 0 < length high → get_or high 0 d ≡ get_or a i []
high_is a low high i d e at l = grind (arith, get_or_default, get_or-append_right)

set_low : (a low high : List (List ℕ)) (i : ℕ) (v : List ℕ) → a ≡ low ++ high → i < length low → set low i v ++ high ≡ set a i v
set_low a low high i v e l = sym (ap (λ (s : List (List ℕ)). set s i v) e ∙ set-append_left low high i v l)

set_high : (a low high : List (List ℕ)) (i : ℕ) (v : List ℕ) → a ≡ low ++ high → length low ≡ i → low ++ set high 0 v ≡ set a i v
set_high a low high i v e at =
    sym (ap (λ (s : List (List ℕ)). set s i v) e ∙ set-append_right low high i i v at (omega arith) ∙ ap (λ k. low ++ set high k v) (omega arith))

pub returns-then-from-to-clause-copied : goal.returns-then-from-to-clause-copied
returns-then-from-to-clause-copied c = grind (arith, low_is, high_is, set_high)

pub returns-else-from-to-clause-copied : goal.returns-else-from-to-clause-copied
returns-else-from-to-clause-copied c = grind (arith, low_is, high_is, set_low)
