-- The ranges of the arguments of `explore`.
use Rattle.std.specs.Option.{ForSome}
use Rattle.std.specs.Prelude.{◌≤◌, ℕ, Option}
use Rattle.run_command_line.specs.declared.meshes.Meshes.{Meshes}

-- there are 1 to 10 meshes, `cancel` is at most 1000 if it is given, and `states` is from 1 to 10000000
pub record AreInRange (meshes : Meshes) (cancel : Option ℕ) (states : ℕ) : Type 0 where
  pub meshes_least : 1 ≤ meshes.count
  pub meshes_most : meshes.count ≤ 10
  pub cancel_most : ForSome cancel (λ steps. steps ≤ 1000)
  pub states_least : 1 ≤ states
  pub states_most : states ≤ 10000000
