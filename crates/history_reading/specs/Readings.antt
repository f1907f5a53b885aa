-- The reading of a recorded history's text: the entries before the first fault, and that fault.
use Rattle.std.specs.Prelude.{ℕ, ◌+◌, if◌then◌else◌, nat_eq, List, [], ◌∷◌, ◌++◌, Option, Some, None, Result, Ok, Err}
use Rattle.model_jobs.specs.JobFiles.{or_fault}
use Rattle.model_memory.specs.Plain.{Entry}
use Rattle.model_words.specs.Words.{◌>>=◌}
use Rattle.model_words.specs.declared.faults.FaultKind.{FaultKind}
use Rattle.model_words.specs.declared.faults.TextFault.{TextFault}
use Rattle.text_devices.specs.Ends.{end_fault, is_full, too_long}
use Rattle.text_fields.specs.Lines.{text_lines}
use Rattle.history_reading.specs.HistoryFiles.{entry_in, head_in}

-- what a line is read as: the head of a history, or an entry
pub data LineRead : Type 0 where
  Head : LineRead
  OfEntry : Entry → LineRead

-- what a line after `lines` lines is read as: the first line as the head, every other as an entry
abbrev pub line_in : ℕ → List ℕ → Result LineRead FaultKind
line_in lines line = if nat_eq lines 0 then (head_in line >>= λ _. Ok Head) else (entry_in line >>= λ entry. Ok (OfEntry entry))

-- the entries before the first fault, and that fault
pub record Reading : Type 0 where
  pub entries : List Entry
  pub fault : Option TextFault

-- the reading without an entry, and with this fault or none
abbrev pub ends_with : Option TextFault → Reading
ends_with fault = record { entries = []; fault = fault }

-- the reading `later` with an entry before it
abbrev pub with_entry : Entry → Reading → Reading
with_entry entry later = record { entries = entry ∷ later.entries; fault = later.fault }

-- the reading `later` with these entries before it
abbrev pub with_entries : List Entry → Reading → Reading
with_entries entries later = record { entries = entries ++ later.entries; fault = later.fault }

-- what the next line, after `lines` lines, is read as, or the fault of the text there
abbrev pub next_in : ℕ → List ℕ → Result LineRead TextFault
next_in lines line = if is_full lines then Err too_long else or_fault (lines + 1) (line_in lines line)

-- the reading from a line on, by what this line is read as and the reading of the later lines: a fault ends the reading
abbrev pub read_on : Result LineRead TextFault → Reading → Reading
read_on (Ok Head) later = later
read_on (Ok (OfEntry entry)) later = with_entry entry later
read_on (Err fault) later = ends_with (Some fault)

-- the reading of these lines, which follow `lines` lines; the last of them is the bytes after the last line end
abbrev pub reading_from : ℕ → List (List ℕ) → Reading
reading_from lines [] = ends_with None
reading_from lines (rest ∷ []) = ends_with (end_fault lines rest)
reading_from lines (line ∷ next ∷ more) = read_on (next_in lines line) (reading_from (lines + 1) (next ∷ more))

-- the reading of a text
abbrev pub reading_of : List ℕ → Reading
reading_of text = reading_from 0 (text_lines text)
