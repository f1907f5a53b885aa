-- The ranges of the numbers in the arguments of `threads`.
use Rattle.std.specs.Prelude.{◌≤◌, ℕ}

-- the numbers are in their ranges
pub record AreInRange (probe rounds workers meshers : ℕ) : Type 0 where
  pub few_tries : probe ≤ 64
  pub few_rounds : rounds ≤ 1000
  pub some_workers : 1 ≤ workers
  pub few_workers : workers ≤ 16
  pub some_meshers : 1 ≤ meshers
  pub few_meshers : meshers ≤ 10
