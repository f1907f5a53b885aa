-- The lines of a live session, each of which is answered when it comes. This project's own choice.
use Rattle.std.specs.Prelude.{◌≡◌, ℕ, ◌-◌, ◌<◌, Bool, true, false, if◌then◌else◌, List, [], ◌∷◌, Result, Ok, Err, codes}
use Rattle.std.specs.List.{list_any}
use Rattle.model_jobs.specs.JobFiles.{IsValidLine, are_same, command_in, is_empty, line_in, number_in}
use Rattle.model_jobs.specs.Jobs.{Line}
use Rattle.model_words.specs.Commands.{IsInRange}
use Rattle.model_words.specs.Words.{◌>>=◌, refuse_if}
use Rattle.model_words.specs.declared.commands.Command.{Command}
use Rattle.model_words.specs.declared.faults.FaultKind.{FaultKind}
use Rattle.model_words.specs.declared.faults.FaultKind.TheVariants.{Word}
use Rattle.model_words.specs.declared.versions.Version.TheVariants.{Two}
use Rattle.text_fields.specs.Lines.{bytes_fit, line_fields}
use Rattle.text_job.specs.Plan.{line_of}
use Rattle.run_live.specs.declared.live_lines.LiveLine.{LiveLine as ReadLine}
use Rattle.run_live.specs.declared.live_lines.LiveLine.TheVariants.{Attempt as ReadAttempt, Call as ReadCall}

-- a line of a session: a worker attempts a command, or the mesher is called as in a line of a plan
pub data LiveLine : Type 0 where
  Attempt : ℕ → Command → LiveLine
  Call : Line → LiveLine

-- whether the fault is a wrong word, or a wrong number of fields
abbrev pub is_word_fault : FaultKind → Bool
is_word_fault Word = true
is_word_fault kind = false

-- whether no command was read because of its word or of the number of its fields
abbrev pub is_no_command : Result Command FaultKind → Bool
is_no_command (Ok command) = false
is_no_command (Err kind) = is_word_fault kind

-- the attempt of the worker in this field at a command that was read. As in every line, a wrong word or number of
-- fields is reported first, and then the first wrong field from the left
abbrev pub attempt_of : ℕ → List ℕ → Result Command FaultKind → Result LiveLine FaultKind
attempt_of workers field read =
    refuse_if Word (is_no_command read) >>= λ _. number_in 0 (workers - 1) field >>= λ worker. read >>= λ command. Ok (Attempt worker command)

-- an attempt, from the fields after `run` in `run W COMMAND`
abbrev pub attempt_in : ℕ → List (List ℕ) → Result LiveLine FaultKind
attempt_in workers [] = Err Word
attempt_in workers (worker ∷ []) = Err Word
attempt_in workers (worker ∷ word ∷ fields) = attempt_of workers worker (command_in Two word fields)

-- a call, from the word and the fields of any line of a plan but `run`
abbrev pub call_in : ℕ → List ℕ → List (List ℕ) → Result LiveLine FaultKind
call_in workers word fields = line_in Two workers word fields >>= λ line. Ok (Call line)

-- a line of a session, from its word and the fields after the word
abbrev pub live_in : ℕ → List ℕ → List (List ℕ) → Result LiveLine FaultKind
live_in workers word fields =
    if are_same word (codes "run") then attempt_in workers fields else call_in workers word fields

-- a line of a session, from all its fields
abbrev pub live_of_fields : ℕ → List (List ℕ) → Result LiveLine FaultKind
live_of_fields workers [] = Err Word
live_of_fields workers (word ∷ fields) = refuse_if Word (list_any is_empty (word ∷ fields)) >>= λ _. live_in workers word fields

-- a line of a session of this number of workers, from its bytes without the line end, or the line's fault
abbrev pub live_line : ℕ → List ℕ → Result LiveLine FaultKind
live_line workers line = bytes_fit 1024 line >>= λ _. live_of_fields workers (line_fields line)

-- the first field is `pair`, so the fields are those of a search
abbrev pub IsSearch : List (List ℕ) → Type 0
IsSearch [] = ⊥
IsSearch (word ∷ fields) = are_same word (codes "pair") ≡ true

-- the line is in range: an attempt has a worker of the session and a command in range. A call is a valid line of a plan
-- of version 2
abbrev pub IsValidLive : ℕ → LiveLine → Type 0
IsValidLive workers (Attempt worker command) = (worker < workers) × IsInRange command
IsValidLive workers (Call line) = IsValidLine Two workers line

-- the line of the definitions for a line that was read
abbrev pub live_of : ReadLine → LiveLine
live_of (ReadAttempt worker command) = Attempt worker command
live_of (ReadCall line) = Call (line_of line)

-- the line of the definitions for a line that was read, or its fault
abbrev pub read_live : Result ReadLine FaultKind → Result LiveLine FaultKind
read_live (Ok line) = Ok (live_of line)
read_live (Err kind) = Err kind
