-- The calls of a recorded history that the heaps follow.
use Rattle.std.specs.Prelude.{Option, Some, None}
use Rattle.model_memory.specs.Plain.{Entry}
use Rattle.model_words.specs.declared.commands.Command.{Command}
use Rattle.model_words.specs.declared.commands.Command.TheVariants.{New as NewCommand, Free as FreeCommand, Alias as AliasCommand}
use Rattle.model_words.specs.declared.commands.Reply.{Reply}
use Rattle.model_words.specs.declared.commands.Reply.TheVariants.{Object as Made, Done}
use Rattle.savings_replay.specs.declared.calls.Call.{Call}
use Rattle.savings_replay.specs.declared.calls.Call.TheVariants.{New, Free, Alias}

-- the call of a command and its reply: a `new` that was answered by an object, or a `free` or an `alias` that was
-- answered by `done`; anything else is no call
abbrev pub call_in : Command → Reply → Option Call
call_in (NewCommand cell len word) (Made serial address) = Some (New cell len)
call_in (FreeCommand cell) Done = Some (Free cell)
call_in (AliasCommand to from) Done = Some (Alias to from)
call_in _ _ = None

-- the call of an entry, if it has one
abbrev pub call_of : Entry → Option Call
call_of entry = call_in entry.command entry.reply
