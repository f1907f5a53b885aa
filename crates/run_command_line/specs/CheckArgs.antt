-- The range of the number in the arguments of `check`.
use Rattle.std.specs.Prelude.{◌≤◌, ℕ}

-- the number is in its range
pub record IsInRange (configurations : ℕ) : Type 0 where
  pub least : 1 ≤ configurations
