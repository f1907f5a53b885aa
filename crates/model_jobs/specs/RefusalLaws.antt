-- When each refusal of a command over a table holds: the lowest is answered, and a command is blocked only if none
-- holds.
use Rattle.std.specs.Prelude.{◌≡◌, ◌↔◌, true}
use Rattle.model_jobs.specs.Jobs.{answered, is_held_back, touches_read_only}
use Rattle.model_memory.specs.Memory.{Memory}
use Rattle.model_heap.specs.Table.{Table}
use Rattle.model_words.specs.declared.commands.Command.{Command}
use Rattle.model_words.specs.declared.commands.Command.TheVariants.{New}
use Rattle.model_words.specs.declared.refusals.Refusal.{Refusal}
use Rattle.model_words.specs.Replies.{IsRepliedBy}
use Rattle.model_heap.specs.RefusalLaws.{new_holds}
use Rattle.model_memory.specs.RefusalLaws.{plain_holds}

-- when each refusal of a command holds: the table decides for a `new`, and the reference memory for any other command
abbrev pub command_holds : Memory → Table → Command → Refusal → Type 0
command_holds m t (New cell len word) = new_holds t len
command_holds m t command = plain_holds m command

-- if refusals of a command hold, it is answered with the lowest, and otherwise it isn't refused
abbrev pub AnswerIsLowest : Type 0
AnswerIsLowest = (m : Memory) (t : Table) (command : Command) → IsRepliedBy (command_holds m t command) (answered m t command).reply

-- a command is blocked if and only if no refusal holds and it touches a read-only page
abbrev pub HeldBackUnrefused : Type 0
HeldBackUnrefused = (m : Memory) (t : Table) (command : Command) → (is_held_back m t command (answered m t command).reply ≡ true)
    ↔ (((refusal : Refusal) → ¬ command_holds m t command refusal) × (touches_read_only m t command ≡ true))
