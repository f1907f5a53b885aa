-- How many of the calls that may be made were made.
use Rattle.std.specs.Prelude.{◌≡◌, ℕ, suc, min, Some}
use Rattle.mesh_lock.specs.declared.call_budget.CallBudget.{CallBudget}

-- the budget has a limit, and all its calls were made
abbrev pub IsUsedUp : CallBudget → Type 0
IsUsedUp budget = budget.most ≡ Some budget.made

-- one more call was made, and is counted. With a limit the count is exact, and otherwise it stays at the greatest u32
pub record IsSpent (old new : CallBudget) : Type 0 where
  pub most : new.most ≡ old.most
  pub made : (n : ℕ) → old.most ≡ Some n → new.made ≡ suc old.made
  pub counted : new.made ≡ min 4294967295 (suc old.made)
