-- The replies and entries of a recorded history, as those of the reference memory.
use Rattle.std.specs.Prelude.{◌≡◌, ℕ, ◌<◌, ◌≤◌, ◌^◌, Result, Ok, Err}
use Rattle.model_memory.specs.Plain.{Entry}
use Rattle.model_words.specs.declared.commands.Command.{Command}
use Rattle.model_words.specs.declared.commands.Command.TheVariants.{New}
use Rattle.model_words.specs.declared.commands.Reply.{Reply}
use Rattle.model_words.specs.declared.commands.Reply.TheVariants.{Object as Made, Done, Bytes, At, Byte, Refused}
use Rattle.model_words.specs.declared.faults.FaultKind.{FaultKind}
use Rattle.text_fields.specs.Commands.{plain_command}
use Rattle.text_fields.specs.Fields.{IsUnread}
use Rattle.text_fields.specs.declared.faults.LineFault.{LineFault}
use Rattle.text_words.specs.declared.recorded.RecordedReply.{RecordedReply}
use Rattle.text_words.specs.declared.recorded.RecordedReply.TheVariants.{Object as RecordedObject, Done as RecordedDone, Bytes as RecordedBytes, At as RecordedAt, Byte as RecordedByte, Refused as RecordedRefused}
use Rattle.text_words.specs.declared.recorded.RecordedEntry.{RecordedEntry}

-- a recorded reply, as a reply of the reference memory
abbrev pub plain_reply : RecordedReply → Reply
plain_reply (RecordedObject serial address) = Made serial address
plain_reply RecordedDone = Done
plain_reply (RecordedBytes bytes) = Bytes bytes
plain_reply (RecordedAt address) = At address
plain_reply (RecordedByte byte) = Byte byte
plain_reply (RecordedRefused refusal) = Refused refusal

-- a recorded entry, as an entry of the reference memory
abbrev pub plain_entry : RecordedEntry → Entry
plain_entry entry = record { worker = entry.worker; command = plain_command entry.command; reply = plain_reply entry.reply }

-- if the command is a `new`, it asks for at most 2^47 bytes
abbrev pub IsSized : Command → Type 0
IsSized (New cell len word) = len ≤ 140737488355328
IsSized command = Unit {0}

-- if the reply is an object, its address has 48 bits
abbrev pub IsNarrow : RecordedReply → Type 0
IsNarrow (RecordedObject serial address) = address < 2 ^ 48
IsNarrow reply = Unit {0}

-- the code reads an answer of at most `most` bytes as the definition does: as the same reply, whose address has 48 bits
-- if it is an object. Otherwise it says why nothing was read
abbrev pub IsReplyRead : ℕ → Result Reply FaultKind → Result RecordedReply LineFault → Type 0
IsReplyRead most read (Ok reply) = (read ≡ Ok (plain_reply reply)) × IsNarrow reply
IsReplyRead most read (Err fault) = IsUnread most read fault
