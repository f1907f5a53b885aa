-- Ranges by their first numbers, in the order of a map's keys.
use Rattle.std.proofs.Common.{◌≡◌, ℕ, ◌≤◌, Option, Some, false, sym, subst, arith}
use Rattle.std.proofs.lemmas.Grind.{common_steps}
use Rattle.std.specs.Ordering.{is_gt, is_lt, nat_cmp}

-- two ranges that begin with one number end with one
pub one_last : (f : ℕ → Option ℕ) (a b k l : ℕ) → a ≡ b → f a ≡ Some k → f b ≡ Some l → k ≡ l
one_last f a b k l same at_a at_b = let e : f a ≡ Some l = (let P : ℕ → Type 0 = λ n. f n ≡ Some l in subst P (sym same) at_b) in cc

-- the order of keys is that of numbers
pub not_greater : (a b : ℕ) → a ≤ b → is_gt (nat_cmp a b) ≡ false
not_greater a b h = grind (arith, common_steps)

pub at_most : (a b : ℕ) → is_gt (nat_cmp a b) ≡ false → a ≤ b
at_most a b h = grind (arith, common_steps)

pub not_less : (a b : ℕ) → is_lt (nat_cmp a b) ≡ false → b ≤ a
not_less a b h = grind (arith, common_steps)
