-- How many calls are open.
use Rattle.std.proofs.Common.{◌≡◌, ℕ, zero, suc, ◌<◌, List, [], ◌∷◌, Option, Some, None, arith, slice_get, slice_set}

-- how many places have the number of an open call
abbrev pub open_count : List (Option ℕ) → ℕ
open_count [] = 0
open_count (None ∷ numbers) = open_count numbers
open_count (Some number ∷ numbers) = suc (open_count numbers)

-- one fewer is open after a place is closed
pub fewer_open : (numbers : List (Option ℕ)) (place number : ℕ) → slice_get numbers place ≡ Some (Some number) → open_count (slice_set numbers place None) < open_count numbers
fewer_open [] zero number is = absurd (cc is)
fewer_open [] (suc place) number is = absurd (cc is)
fewer_open (None ∷ numbers) zero number is = absurd (cc is)
fewer_open (Some n ∷ numbers) zero number is = omega arith
fewer_open (None ∷ numbers) (suc place) number is = fewer_open numbers place number is
fewer_open (Some n ∷ numbers) (suc place) number is = let rest = fewer_open numbers place number is in omega (arith, rest)
