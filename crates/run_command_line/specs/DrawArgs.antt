-- The ranges of the numbers in the arguments of `draw`.
use Rattle.std.specs.Prelude.{◌≤◌, ℕ}

-- the numbers are in their ranges
pub record AreInRange (from to columns : ℕ) : Type 0 where
  pub from_least : 1 ≤ from
  pub from_most : from ≤ 1048576
  pub to_least : 1 ≤ to
  pub to_most : to ≤ 1048576
  pub columns_most : columns ≤ 64
