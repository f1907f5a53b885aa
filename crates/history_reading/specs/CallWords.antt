-- The calls of a history of overlapping calls, as calls of the model.
use Rattle.std.specs.Prelude.{◌≡◌, ℕ, ◌<◌, ◌≤◌, List, Result, Ok, Err}
use Rattle.model_history.specs.Recorded.{many_cells}
use Rattle.model_intervals.specs.Completions.{never}
use Rattle.model_intervals.specs.Intervals.{Call}
use Rattle.model_intervals.specs.OverlappingCalls.{HasEffect, cell_at}
use Rattle.model_words.specs.declared.faults.FaultKind.{FaultKind}
use Rattle.text_fields.specs.Commands.{IsRecordable, IsWithin, plain_command}
use Rattle.text_fields.specs.Fields.{IsUnread}
use Rattle.text_fields.specs.declared.faults.LineFault.{LineFault}
use Rattle.text_words.specs.RecordedWords.{IsNarrow, IsSized, plain_entry, plain_reply}
use Rattle.history_reading.specs.CallFiles.{Asked, end_in}
use Rattle.history_reading.specs.declared.asked.AskedCall.{AskedCall}
use Rattle.history_reading.specs.declared.words.TimedCall.{TimedCall}

-- a call that was read, as a call of the model
abbrev pub plain_call : TimedCall → Call
plain_call call = record { begin = call.begin; end = call.end; entry = plain_entry call.entry }

-- the call ends no earlier than it begins, and no later than `never`. Its command, answer and cell are in their ranges,
-- and the answer shows the command's effect
pub record IsReadCall (call : TimedCall) : Type 0 where
  pub takes_time : call.begin ≤ call.end
  pub ends : call.end ≤ never
  pub in_range : IsRecordable (plain_command call.entry.command)
  pub sized : IsSized (plain_command call.entry.command)
  pub narrow : IsNarrow call.entry.reply
  pub effect : HasEffect (plain_command call.entry.command) (plain_reply call.entry.reply)
  pub cell : cell_at (plain_call call) < many_cells

-- the command that was read with its worker and moments, as in the model
abbrev pub plain_asked : AskedCall → Asked
plain_asked asked = record { worker = asked.worker; begin = asked.begin; end = asked.end; command = plain_command asked.command }

-- the field is read as this end of a call that begins at `begin`. It is no earlier than the begin, and no later than
-- `never`
abbrev pub IsReadEnd : ℕ → List ℕ → ℕ → Type 0
IsReadEnd begin field end = (end_in begin field ≡ Ok end) × (begin ≤ end) × (end ≤ never)

-- the command's call ends no earlier than it begins and no later than `never`, and the command is in its ranges
pub record IsReadAsked (asked : AskedCall) : Type 0 where
  pub takes_time : asked.begin ≤ asked.end
  pub ends : asked.end ≤ never
  pub in_range : IsRecordable (plain_command asked.command)
  pub within : IsWithin 4294967295 140737488355328 281474976710655 asked.command

-- the code reads a worker's command as the definition does: as the same command, in its ranges. Otherwise it says why
-- nothing was read
abbrev pub IsAskedRead : Result Asked FaultKind → Result AskedCall LineFault → Type 0
IsAskedRead read (Ok asked) = (read ≡ Ok (plain_asked asked)) × IsReadAsked asked
IsAskedRead read (Err fault) = IsUnread 4096 read fault

-- the code reads a call as the definition does: as the same call, in its ranges. Otherwise it says why nothing was read
abbrev pub IsCallRead : Result Call FaultKind → Result TimedCall LineFault → Type 0
IsCallRead read (Ok call) = (read ≡ Ok (plain_call call)) × IsReadCall call
IsCallRead read (Err fault) = IsUnread 4096 read fault
