-- Sets of numbers in words of 64 bits.
use Rattle.std.specs.Prelude.{◌≡◌, ◌≢◌, ℕ, ◌*◌, ◌/◌, ◌%◌, ◌<◌, ◌≤◌, Bool, true, false, not, nat_eq, List, Option, Some, None, filter, length, slice_index}
use Rattle.std.specs.Int.{bit_at}
use Rattle.std.specs.List.{range_with_len}
use Rattle.std.specs.Ordering.{nat_cmp}
use Rattle.std.specs.FinSet as set

-- whether bit `k` of a word is set
abbrev pub bit : ℕ → ℕ → Bool
bit word k = nat_eq (bit_at word k) 1

-- whether the words contain the number `n`
abbrev pub has : List ℕ → ℕ → Bool
has words n = bit (slice_index words (n / 64)) (n % 64)

-- the set that the words represent
unfoldable pub set_of : List ℕ → set.FinSet nat_cmp
set_of words = set.from_list (filter (has words) (range_with_len 0 (64 * length words)))

-- `n` is the first number that passes the test, at or above `from`, and below `end`
pub record IsFirst (test : ℕ → Bool) (from end n : ℕ) : Type 0 where
  pub above : from ≤ n
  pub below : n < end
  pub passes : test n ≡ true
  pub first : (m : ℕ) → from ≤ m → m < n → test m ≡ false

-- the first number of a range that passes the test, or None if no number of the range passes
abbrev pub IsLeast : (ℕ → Bool) → ℕ → ℕ → Option ℕ → Type 0
IsLeast test from end None = (m : ℕ) → from ≤ m → m < end → test m ≡ false
IsLeast test from end (Some n) = IsFirst test from end n

-- bit `n` of the new words is `value`, and every other bit is unchanged
pub record PutsBit (old new : List ℕ) (n : ℕ) (value : Bool) : Type 0 where
  pub here : has new n ≡ value
  pub others : (m : ℕ) → m ≢ n → has new m ≡ has old m

-- the summary contains a number exactly if the word with this number isn't zero
abbrev pub IsMarked : List ℕ → List ℕ → Type 0
IsMarked words summary = (j : ℕ) → has summary j ≡ not (nat_eq (slice_index words j) 0)

-- a set's 1,024 words, their summary of 16 words, and the summary of this summary, of one word
pub record IsBin (words summary top : List ℕ) : Type 0 where
  pub sized : length words ≡ 1024
  pub summed : length summary ≡ 16
  pub topped : length top ≡ 1
  pub marked : IsMarked words summary
  pub top_marked : IsMarked summary top
