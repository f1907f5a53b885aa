-- Reading the lines of a recorded history. The format is this project's own choice.
use Rattle.std.specs.Prelude.{ℕ, ◌+◌, nat_lt, Bool, List, [], ◌∷◌, Option, Some, None, Result, Ok, Err, codes, drop, length, take}
use Rattle.std.specs.List.{list_any, position}
use Rattle.model_jobs.specs.JobFiles.{are_same, header_in, is_empty, number_in, ruled_command_in}
use Rattle.model_memory.specs.Plain.{Entry}
use Rattle.model_words.specs.Words.{◌>>=◌, or_refuse, refuse_if}
use Rattle.model_words.specs.declared.commands.Command.{Command}
use Rattle.model_words.specs.declared.faults.FaultKind.{FaultKind}
use Rattle.model_words.specs.declared.faults.FaultKind.TheVariants.{Word}
use Rattle.text_fields.specs.Commands.{history_rules}
use Rattle.text_fields.specs.Lines.{bytes_fit, line_fields}
use Rattle.text_words.specs.ReplyWords.{answer_in}

-- the command of this word and these fields, or their fault
abbrev pub command_in : List ℕ → List (List ℕ) → Result Command FaultKind
command_in word fields = ruled_command_in history_rules word fields

-- whether the field is the arrow between a command and its answer
abbrev pub is_arrow : List ℕ → Bool
is_arrow field = are_same field (codes "->")

-- the fields before and after a place, if there is one
abbrev pub parts_at : List (List ℕ) → Option ℕ → Option (List (List ℕ) × List (List ℕ))
parts_at fields None = None
parts_at fields (Some place) = Some (take place fields, drop (place + 1) fields)

-- the fields before and after the first arrow, if there is one
abbrev pub arrow_split : List (List ℕ) → Option (List (List ℕ) × List (List ℕ))
arrow_split fields = parts_at fields (position is_arrow fields)

-- `W COMMAND`: a worker and its command
abbrev pub asked_in : List (List ℕ) → Result (ℕ × Command) FaultKind
asked_in [] = Err Word
asked_in (worker ∷ []) = Err Word
asked_in (worker ∷ word ∷ fields) = number_in 0 65535 worker >>= λ asking. command_in word fields >>= λ command. Ok (asking, command)

-- the entry of the fields before and after its arrow, or its first fault from left to right
abbrev pub entry_of : List (List ℕ) → List (List ℕ) → Result Entry FaultKind
entry_of before behind =
    asked_in before >>= λ asked. answer_in 4096 behind >>= λ reply. Ok (record { worker = asked.0; command = asked.1; reply = reply })

-- the entry of these fields, at most 35 and none of them empty, or its fault
abbrev pub entry_fields : List (List ℕ) → Result Entry FaultKind
entry_fields fields =
    refuse_if Word (list_any is_empty fields) >>= λ _. refuse_if Word (nat_lt 35 (length fields)) >>= λ _.
    or_refuse Word (arrow_split fields) >>= λ parts. entry_of parts.0 parts.1

-- the entry of a line, without the line's end, or its fault
abbrev pub entry_in : List ℕ → Result Entry FaultKind
entry_in line = bytes_fit 16384 line >>= λ _. entry_fields (line_fields line)

-- success if these are the fields of the first line, `history 1`, or else the fault
abbrev pub head_fields : List (List ℕ) → Result (Unit {0}) FaultKind
head_fields [] = Err Word
head_fields (word ∷ fields) =
    refuse_if Word (list_any is_empty (word ∷ fields)) >>= λ _. header_in (codes "history") 1 1 word fields >>= λ _. Ok tt

-- success if the line, without its end, is the first line of a history, or else its fault
abbrev pub head_in : List ℕ → Result (Unit {0}) FaultKind
head_in line = bytes_fit 16384 line >>= λ _. head_fields (line_fields line)
