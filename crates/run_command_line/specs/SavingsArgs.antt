-- The ranges of the numbers in the arguments of `savings`.
use Rattle.std.specs.Prelude.{◌≤◌, ℕ}

-- `members` is 1 to 8, `probe` is at most 64, `from` is at least 1, and at most `to`
pub record AreInRange (members probe from to : ℕ) : Type 0 where
  pub some_member : 1 ≤ members
  pub few_members : members ≤ 8
  pub few_tries : probe ≤ 64
  pub first_least : 1 ≤ from
  pub in_order : from ≤ to
