-- The packed commands of a script.
use Rattle.std.specs.Prelude.{ℕ, List, length}
use Rattle.std.specs.List.{All}
use Rattle.model_words.specs.Commands.{IsInRange}
use Rattle.mesh_packed.specs.Packed.{IsCommandWithin, command_in}
use Rattle.mesh_packed.specs.declared.command.PackedCommand.{PackedCommand}

-- each packed command has its bytes within `bytes`, and is in range: if a command stores or loads bytes, it does so
-- with 1 to 32
pub record IsScript (bytes : List ℕ) (commands : List PackedCommand) : Type 0 where
  pub within : All (IsCommandWithin (length bytes)) commands
  pub in_range : All (λ command. IsInRange (command_in bytes command)) commands
