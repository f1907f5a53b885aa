-- The ranges of the numbers in the arguments of `live`.
use Rattle.std.specs.Prelude.{◌≤◌, ℕ}

-- the numbers are in their ranges
pub record AreFairSizes (pages history workers : ℕ) : Type 0 where
  pub pages_least : 1 ≤ pages
  pub pages_most : pages ≤ 4096
  pub history_most : history ≤ 65536
  pub workers_least : 1 ≤ workers
  pub workers_most : workers ≤ 64
