-- What a list has where others were stored in it.
use Rattle.std.proofs.Common.{◌≡◌, ℕ, ◌+◌, ◌<◌, ◌≤◌, List, ◌++◌, length, get_or, take, slice_range, ap, ◌∙◌, arith, rules}
use Rattle.std.proofs.lemmas.List.{places, same_lists, length-take, length-drop, length-take-le}
use Rattle.model_memory.specs.Memory.{overwritten}
use Rattle.history_in_order.proofs.Runs.{prefix_more}

-- before the bytes that were stored all is as it was
pub overwritten_before : (xs : List ℕ) (off : ℕ) (new : List ℕ) (i : ℕ) → off + length new ≤ length xs → i < off → get_or (overwritten xs off new) i 0 ≡ get_or xs i 0
overwritten_before xs off new i fits below = grind (arith, places)

-- there they are
pub overwritten_at : (xs : List ℕ) (off : ℕ) (new : List ℕ) (i k : ℕ) → off + length new ≤ length xs → k < length new → i ≡ off + k → get_or (overwritten xs off new) i 0 ≡ get_or new k 0
overwritten_at xs off new i k fits below is = grind (arith, places)

-- behind them all is as it was
pub overwritten_after : (xs : List ℕ) (off : ℕ) (new : List ℕ) (i : ℕ) → off + length new ≤ length xs → off + length new ≤ i → get_or (overwritten xs off new) i 0 ≡ get_or xs i 0
overwritten_after xs off new i fits above = grind (arith, places)

-- one run behind another
overwritten_twice : (xs : List ℕ) (off : ℕ) (first rest : List ℕ) → off + (length first + length rest) ≤ length xs
    → overwritten (overwritten xs off first) (off + length first) rest ≡ overwritten xs off (first ++ rest)
overwritten_twice xs off first rest fits =
    same_lists (overwritten (overwritten xs off first) (off + length first) rest) (overwritten xs off (first ++ rest)) (search (rules, places)) (λ k d h. grind (arith, places))

-- a run is stored behind a prefix
pub run_stored : (all between after bytes : List ℕ) (k run start at : ℕ) → start + length bytes ≤ length all → k + run ≤ length bytes → at ≡ start + k
    → between ≡ overwritten all start (take k bytes) → after ≡ overwritten between at (slice_range bytes k (k + run))
    → after ≡ overwritten all start (take (k + run) bytes)
run_stored all between after bytes k run start at fits within is_at stored then =
    let more = slice_range bytes k (k + run) in
    let long : length (take k bytes) ≡ k = length-take-le k bytes (omega (arith, within)) in
    let room : start + (length (take k bytes) + length more) ≤ length all = simp (length-take, length-drop) (omega (arith, fits, within)) in
    let is : at ≡ start + length (take k bytes) = omega (arith, is_at, long) in
    then ∙ ap (λ (xs : List ℕ). overwritten xs at more) stored ∙ ap (λ (i : ℕ). overwritten (overwritten all start (take k bytes)) i more) is
    ∙ overwritten_twice all start (take k bytes) more room ∙ ap (λ (xs : List ℕ). overwritten all start xs) (prefix_more bytes k run within)
