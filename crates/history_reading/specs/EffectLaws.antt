-- What the test of an answer decides.
use Rattle.std.specs.Prelude.{◌≡◌, ◌↔◌, true}
use Rattle.model_intervals.specs.OverlappingCalls.{HasEffect}
use Rattle.model_words.specs.declared.commands.Command.{Command}
use Rattle.model_words.specs.declared.commands.Reply.{Reply}
use Rattle.history_reading.specs.CallFiles.{has_effect}

-- an answer passes the test of a command if and only if it shows the command's effect
abbrev pub TestsTellEffects : Type 0
TestsTellEffects = (command : Command) (reply : Reply) → has_effect command reply ≡ true ↔ HasEffect command reply
