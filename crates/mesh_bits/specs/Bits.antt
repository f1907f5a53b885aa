-- An occupancy bitmap as a list of truth values, one for each number below its width.
use Rattle.std.specs.Prelude.{◌≡◌, ◌≢◌, ℕ, zero, suc, ◌+◌, ◌/◌, ◌%◌, ◌<◌, ◌≤◌, Bool, true, false, ◌&&◌, ◌||◌, not, nat_eq, List, [], ◌∷◌, map, slice_index, slice_index_or, count_by}
use Rattle.std.specs.Int.{bit_at}
use Rattle.std.specs.Int.RustNames.{count_ones}
use Rattle.std.specs.List.{range_with_len}

-- whether the number is in the set
abbrev pub is_member : List Bool → ℕ → Bool
is_member set i = slice_index_or set i false

-- how many numbers are in the set
abbrev pub member_count : List Bool → ℕ
member_count set = count_by (λ b. b) set

-- how many numbers below the width are not in the set
abbrev pub clear_count : List Bool → ℕ
clear_count set = count_by not set

-- whether two sets are meshable: no number is in both
abbrev pub are_meshable : List Bool → List Bool → Bool
are_meshable [] ys = true
are_meshable (x ∷ xs) [] = true
are_meshable (x ∷ xs) (y ∷ ys) = not (x && y) && are_meshable xs ys

-- no number is in both sets
abbrev pub AreApart : List Bool → List Bool → Type 0
AreApart xs ys = (i : ℕ) → is_member xs i ≡ true → is_member ys i ≡ false

-- the numbers that are in at least one of the sets
abbrev pub union_of : List Bool → List Bool → List Bool
union_of [] ys = ys
union_of (x ∷ xs) [] = x ∷ xs
union_of (x ∷ xs) (y ∷ ys) = (x || y) ∷ union_of xs ys

-- whether the bit of the number is set in the words
abbrev pub has : List ℕ → ℕ → Bool
has words i = nat_eq (bit_at (slice_index words (i / 64)) (i % 64)) 1

-- the set of the numbers below the width whose bits are set in the words
abbrev pub members : List ℕ → ℕ → List Bool
members words width = map (has words) (range_with_len 0 width)

-- the width is 1 to 256, and no bit from the width on is set
pub record IsBitmap (words : List ℕ) (width : ℕ) : Type 0 where
  pub some : 1 ≤ width
  pub most : width ≤ 256
  pub clear_above : (i : ℕ) → width ≤ i → i < 256 → has words i ≡ false

-- bit `i` of the new words is `bit`, and every other bit is unchanged
pub record PutsBit (old new : List ℕ) (i : ℕ) (bit : Bool) : Type 0 where
  pub here : has new i ≡ bit
  pub others : (j : ℕ) → j < 256 → j ≢ i → has new j ≡ has old j

-- no bit is set in both lists of words
abbrev pub HaveNoBitInBoth : List ℕ → List ℕ → Type 0
HaveNoBitInBoth words others = (i : ℕ) → i < 256 → has words i ≡ true → has others i ≡ false

-- each bit of the new words is set if and only if it is set in one of the two lists or in both
abbrev pub HasBitsOfEither : List ℕ → List ℕ → List ℕ → Type 0
HasBitsOfEither words others new = (i : ℕ) → i < 256 → has new i ≡ (has words i || has others i)

-- how many bits of the four words are set
abbrev pub ones_of : List ℕ → ℕ
ones_of words =
    count_ones (slice_index words 0) + count_ones (slice_index words 1) + count_ones (slice_index words 2) + count_ones (slice_index words 3)

-- how many of the k lowest bits of a word are set
unfoldable pub low_ones : ℕ → ℕ → ℕ
low_ones zero word = 0
low_ones (suc k) word = word % 2 + low_ones k (word / 2)
