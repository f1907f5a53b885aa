-- Runs of bytes, one behind another.
use Rattle.std.proofs.Common.{◌≡◌, ℕ, ◌+◌, ◌≤◌, List, ◌++◌, length, take, slice_range, ap, sym, ◌∙◌, arith, rules}
use Rattle.std.proofs.lemmas.List.{places, same_lists, length-append, length-take, length-drop}

-- a prefix and the run behind it are a longer prefix
pub prefix_more : (xs : List ℕ) (k n : ℕ) → k + n ≤ length xs → take k xs ++ slice_range xs k (k + n) ≡ take (k + n) xs
prefix_more xs k n fits = same_lists (take k xs ++ slice_range xs k (k + n)) (take (k + n) xs) (search (rules, places)) (λ i d h. grind (arith, places))

-- a range and the run behind it are a longer range
range_more : (xs : List ℕ) (start k n : ℕ) → start + (k + n) ≤ length xs
    → slice_range xs start (start + k) ++ slice_range xs (start + k) (start + k + n) ≡ slice_range xs start (start + (k + n))
range_more xs start k n fits =
    same_lists (slice_range xs start (start + k) ++ slice_range xs (start + k) (start + k + n)) (slice_range xs start (start + (k + n))) (search (rules, places))
    (λ i d h. grind (arith, places))

-- a run of a range is a run of the list
run_of_range : (xs : List ℕ) (start len k n : ℕ) → start + len ≤ length xs → k + n ≤ len
    → slice_range (slice_range xs start (start + len)) k (k + n) ≡ slice_range xs (start + k) (start + k + n)
run_of_range xs start len k n fits within =
    same_lists (slice_range (slice_range xs start (start + len)) k (k + n)) (slice_range xs (start + k) (start + k + n)) (search (rules, places))
    (λ i d h. grind (arith, places))

range_length : (xs : List ℕ) (start n : ℕ) → start + n ≤ length xs → length (slice_range xs start (start + n)) ≡ n
range_length xs start n fits = simp (length-take, length-drop) (omega (arith, fits))

-- what is loaded after one more run
pub run_loaded : (all some run more : List ℕ) (start at n : ℕ) → start + (length some + n) ≤ length all → at ≡ start + length some
    → some ≡ slice_range all start (start + length some) → run ≡ slice_range all at (at + n) → more ≡ some ++ run
    → (length more ≡ length some + n) × (more ≡ slice_range all start (start + length more))
run_loaded all some run more start at n fits is_at loaded is_run is = (
  long,
  is ∙ ap (λ (xs : List ℕ). xs ++ run) loaded ∙ ap (λ (xs : List ℕ). slice_range all start (start + length some) ++ xs) here
      ∙ range_more all start (length some) n fits ∙ ap (λ (i : ℕ). slice_range all start (start + i)) (sym long),
)
  where
    here : run ≡ slice_range all (start + length some) (start + length some + n)
    here = is_run ∙ ap (λ (i : ℕ). slice_range all i (i + n)) is_at

    long : length more ≡ length some + n
    long = ap (λ (xs : List ℕ). length xs) is ∙ length-append some run
        ∙ ap (λ (i : ℕ). length some + i) (ap (λ (xs : List ℕ). length xs) here ∙ range_length all (start + length some) n (omega (arith, fits)))

-- what is the same after one more run that is the same
pub run_same : (all bytes run : List ℕ) (start at k n : ℕ) → start + length bytes ≤ length all → k + n ≤ length bytes → at ≡ start + k
    → slice_range all start (start + k) ≡ take k bytes → run ≡ slice_range all at (at + n) → run ≡ slice_range bytes k (k + n)
    → slice_range all start (start + (k + n)) ≡ take (k + n) bytes
run_same all bytes run start at k n fits within is_at same is_run is =
    sym (range_more all start k n (omega (arith, fits, within))) ∙ ap (λ (xs : List ℕ). xs ++ slice_range all (start + k) (start + k + n)) same
    ∙ ap (λ (xs : List ℕ). take k bytes ++ xs) (sym (ap (λ (i : ℕ). slice_range all i (i + n)) is_at) ∙ sym is_run ∙ is) ∙ prefix_more bytes k n within

-- where all bytes are the same, a run is
pub run_of_same : (all bytes run : List ℕ) (start at k n : ℕ) → start + length bytes ≤ length all → k + n ≤ length bytes → at ≡ start + k
    → run ≡ slice_range all at (at + n) → slice_range all start (start + length bytes) ≡ bytes → run ≡ slice_range bytes k (k + n)
run_of_same all bytes run start at k n fits within is_at is_run same =
    is_run ∙ ap (λ (i : ℕ). slice_range all i (i + n)) is_at ∙ sym (run_of_range all start (length bytes) k n fits within)
    ∙ ap (λ (xs : List ℕ). slice_range xs k (k + n)) same
