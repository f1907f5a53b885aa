-- Bytes overwritten one after another.
use Rattle.std.proofs.Common.{◌≡◌, ℕ, suc, ◌+◌, ◌<◌, List, [], ◌∷◌, length, set, take, refl, sym, ◌∙◌, arith}
use Rattle.std.proofs.lemmas.List.{append-nil, append_assoc, drop-set-lt, take-append-drop, take_more_set}
use Rattle.model_memory.specs.Memory.{overwritten}

-- no byte
pub overwritten_none : (xs : List ℕ) (k : ℕ) → overwritten xs k [] ≡ xs
overwritten_none xs k = let end : k + 0 ≡ k = omega arith in rw (append-nil, end, take-append-drop) refl

-- one byte, and then those behind it
pub overwritten_more : (xs : List ℕ) (k x : ℕ) (ys : List ℕ) → k < length xs → overwritten (set xs k x) (k + 1) ys ≡ overwritten xs k (x ∷ ys)
overwritten_more xs k x ys within =
    let after : k < k + 1 + length ys = omega arith in
    let end : k + 1 + length ys ≡ k + suc (length ys) = omega arith in
    rw (take_more_set xs k x within, drop-set-lt (k + 1 + length ys) xs k x after, end, append_assoc (take k xs) (x ∷ []) ys) refl

-- the last byte
pub overwritten_one : (xs : List ℕ) (k x : ℕ) → k < length xs → set xs k x ≡ overwritten xs k (x ∷ [])
overwritten_one xs k x within = sym (overwritten_none (set xs k x) (k + 1)) ∙ overwritten_more xs k x [] within
