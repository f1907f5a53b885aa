-- What is found of one entry.
use Rattle.std.specs.Prelude.{◌≡◌, Bool, true, false, Result, Ok, Err}
use Rattle.model_memory.specs.Memory.{Memory}
use Rattle.model_memory.specs.Plain.{Follows, plain}
use Rattle.model_history.specs.Recorded.{Recorded, RecordedStep, any_allocator}
use Rattle.model_words.specs.declared.commands.Command.{Command}
use Rattle.model_words.specs.declared.commands.Command.TheVariants.{New}
use Rattle.model_words.specs.declared.commands.Reply.{Reply}
use Rattle.text_words.specs.declared.recorded.RecordedReply.{RecordedReply}
use Rattle.text_words.specs.declared.recorded.RecordedReply.TheVariants.{Done, Refused}
use Rattle.std.specs.declared.alloc.AllocError.{AllocError}
use Rattle.history_in_order.specs.Stands.{Stands, with_memory}
use Rattle.history_in_order.specs.declared.faults.CommandError.{CommandError}
use Rattle.history_in_order.specs.declared.faults.CommandError.TheVariants.{Refused as IsRefused, Memory as OfMemory}
use Rattle.history_in_order.specs.declared.memory.Tracked.{Tracked}

-- whether the command is a `new`
abbrev pub is_new : Command → Bool
is_new (New cell len word) = true
is_new command = false

-- the reference memory gives this answer, and the trees represent the memory after it
abbrev pub IsAnswered : Tracked → Tracked → Command → Reply → Type 0
IsAnswered old new command reply = (r : Recorded) → Stands old r → (m : Memory) × Follows (plain r.memory 0 command) r.memory reply m × Stands new (with_memory r m)

-- the entry is a step of a recorded history, and the trees represent the memory after it
abbrev pub IsTaken : Tracked → Tracked → Command → Reply → Type 0
IsTaken old new command reply = (r : Recorded) → Stands old r → (n : Recorded) × RecordedStep any_allocator r command reply n × Stands new n

-- the entry is no step of a recorded history
abbrev pub IsWrong : Tracked → Command → Reply → Type 0
IsWrong old command reply = (r : Recorded) → Stands old r → (n : Recorded) → RecordedStep any_allocator r command reply n → ⊥

-- if the command is done or refused, this is its reply; if it is out of memory, there is an error instead
abbrev pub IsTold : Result (Unit {0}) CommandError → Result RecordedReply AllocError → Type 0
IsTold (Ok _) (Ok reply) = reply ≡ Done
IsTold (Err (IsRefused refusal)) (Ok reply) = reply ≡ Refused refusal
IsTold (Err OfMemory) (Err error) = Unit {0}
IsTold outcome told = ⊥
