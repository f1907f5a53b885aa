-- Reading the lines of a history of overlapping calls. The format is this project's own choice.
use Rattle.std.specs.Prelude.{ℕ, ◌||◌, if◌then◌else◌, not, nat_lt, Bool, true, false, List, [], ◌∷◌, Result, Ok, Err, codes, length}
use Rattle.std.specs.List.{list_any}
use Rattle.model_intervals.specs.Completions.{never}
use Rattle.model_intervals.specs.Intervals.{Call}
use Rattle.model_jobs.specs.JobFiles.{are_same, header_in, is_empty, number_in}
use Rattle.model_words.specs.Words.{◌>>=◌, or_refuse, refuse_if}
use Rattle.model_words.specs.declared.commands.Command.{Command}
use Rattle.model_words.specs.declared.commands.Command.TheVariants.{New, Put, Get, Free, Addr}
use Rattle.model_words.specs.declared.commands.Reply.{Reply}
use Rattle.model_words.specs.declared.commands.Reply.TheVariants.{Object as Made, Done, Bytes, At, Refused}
use Rattle.model_words.specs.declared.faults.FaultKind.{FaultKind}
use Rattle.model_words.specs.declared.faults.FaultKind.TheVariants.{Word}
use Rattle.model_words.specs.declared.refusals.Refusal.TheVariants.{NoPages}
use Rattle.text_fields.specs.Lines.{bytes_fit, line_fields}
use Rattle.history_reading.specs.HistoryFiles.{arrow_split, command_in}
use Rattle.text_words.specs.ReplyWords.{answer_in}

-- whether the word is that of a command that names one object by its cell
abbrev pub is_object_word : List ℕ → Bool
is_object_word word =
    are_same word (codes "new") || are_same word (codes "put") || are_same word (codes "get") || are_same word (codes "free")
    || are_same word (codes "addr")

-- the command of this word and these fields, if it names one object by its cell, or else a fault
abbrev pub object_command_in : List ℕ → List (List ℕ) → Result Command FaultKind
object_command_in word fields = refuse_if Word (not (is_object_word word)) >>= λ _. command_in word fields

-- a worker's command, and the moments at which its call began and ended
pub record Asked : Type 0 where
  pub worker : ℕ
  pub begin : ℕ
  pub end : ℕ
  pub command : Command

-- whether the field in the place of an end marks a call that was pending when the recording stopped
abbrev pub is_pending_mark : List ℕ → Bool
is_pending_mark field = are_same field (codes "-")

-- the end of a call that begins at this moment: it is at least the begin, and it is `never` if the call was pending
-- when the recording stopped
abbrev pub end_in : ℕ → List ℕ → Result ℕ FaultKind
end_in from field = if is_pending_mark field then Ok never else number_in from 18446744073709551615 field

-- `W BEGIN END COMMAND`
abbrev pub call_asked_in : List (List ℕ) → Result Asked FaultKind
call_asked_in [] = Err Word
call_asked_in (worker ∷ []) = Err Word
call_asked_in (worker ∷ begin ∷ []) = Err Word
call_asked_in (worker ∷ begin ∷ end ∷ []) = Err Word
call_asked_in (worker ∷ begin ∷ end ∷ word ∷ fields) =
    number_in 0 65535 worker >>= λ asking. number_in 0 18446744073709551615 begin >>= λ from. end_in from end >>= λ to.
    object_command_in word fields >>= λ command. Ok (record { worker = asking; begin = from; end = to; command = command })

-- whether the command may have this answer and the answer shows its effect: only a `new` may be refused
abbrev pub has_effect : Command → Reply → Bool
has_effect (New cell len word) (Made serial address) = true
has_effect (New cell len word) (Refused refusal) = true
has_effect (Put cell off bytes) Done = true
has_effect (Get cell off len) (Bytes bytes) = true
has_effect (Free cell) Done = true
has_effect (Addr cell) (At address) = true
has_effect command reply = false

-- the answer to a command in these fields, if it shows the command's effect, or else a fault
abbrev pub effect_in : Command → List (List ℕ) → Result Reply FaultKind
effect_in command fields = answer_in 4096 fields >>= λ reply. refuse_if Word (not (has_effect command reply)) >>= λ _. Ok reply

-- the call of a command with this answer
abbrev pub answered : Asked → Reply → Call
answered asked reply =
    record { begin = asked.begin; end = asked.end; entry = record { worker = asked.worker; command = asked.command; reply = reply } }

-- the call of the fields before and after its arrow, or its first fault from left to right
abbrev pub call_of : List (List ℕ) → List (List ℕ) → Result Call FaultKind
call_of before behind = call_asked_in before >>= λ asked. effect_in asked.command behind >>= λ reply. Ok (answered asked reply)

-- a stand-in for the answer of a call that was pending when the recording stopped. The answer isn't known and is never
-- compared. The stand-in shows an effect, as the answer of each call of a history does
abbrev pub unknown_reply : Command → Reply
unknown_reply (New cell len word) = Refused NoPages
unknown_reply (Get cell off len) = Bytes (record { items = [] })
unknown_reply (Addr cell) = At 0
unknown_reply command = Done

-- whether these are the fields of a call that was pending when the recording stopped: the third is `-`
abbrev pub is_pending : List (List ℕ) → Bool
is_pending [] = false
is_pending (worker ∷ []) = false
is_pending (worker ∷ begin ∷ []) = false
is_pending (worker ∷ begin ∷ end ∷ fields) = is_pending_mark end

-- the pending call of these fields, `W BEGIN - COMMAND`, or its first fault from left to right
abbrev pub pending_call : List (List ℕ) → Result Call FaultKind
pending_call fields = call_asked_in fields >>= λ asked. Ok (answered asked (unknown_reply asked.command))

-- the call of these fields, which has an answer, or its fault
abbrev pub answered_call : List (List ℕ) → Result Call FaultKind
answered_call fields = or_refuse Word (arrow_split fields) >>= λ parts. call_of parts.0 parts.1

-- the call of these fields, at most 37 and none of them empty, or its fault
abbrev pub call_fields : List (List ℕ) → Result Call FaultKind
call_fields fields =
    refuse_if Word (list_any is_empty fields) >>= λ _. refuse_if Word (nat_lt 37 (length fields)) >>= λ _.
    (if is_pending fields then pending_call fields else answered_call fields)

-- the call of a line, without the line's end, or its fault
abbrev pub call_in : List ℕ → Result Call FaultKind
call_in line = bytes_fit 16384 line >>= λ _. call_fields (line_fields line)

-- success if these are the fields of the first line, `history 2`, or else the fault
abbrev pub call_head_fields : List (List ℕ) → Result (Unit {0}) FaultKind
call_head_fields [] = Err Word
call_head_fields (word ∷ fields) =
    refuse_if Word (list_any is_empty (word ∷ fields)) >>= λ _. header_in (codes "history") 2 2 word fields >>= λ _. Ok tt

-- success if the line, without its end, is the first line of a history of overlapping calls, or else its fault
abbrev pub call_head_in : List ℕ → Result (Unit {0}) FaultKind
call_head_in line = bytes_fit 16384 line >>= λ _. call_head_fields (line_fields line)
