-- The reading of a text of overlapping calls: the calls before the first fault, and that fault.
use Rattle.std.specs.Prelude.{ℕ, ◌+◌, ◌&&◌, if◌then◌else◌, nat_eq, nat_le, nat_lt, Bool, true, List, [], ◌∷◌, ◌++◌, Option, Some, None, Result, Ok, Err, option_map}
use Rattle.std.specs.List.{list_all}
use Rattle.model_intervals.specs.Intervals.{Call}
use Rattle.model_jobs.specs.JobFiles.{fault_at}
use Rattle.model_words.specs.declared.faults.FaultKind.{FaultKind}
use Rattle.model_words.specs.declared.faults.TextFault.{TextFault}
use Rattle.text_fields.specs.Lines.{text_lines}
use Rattle.text_devices.specs.Ends.{end_fault, is_full, too_long}
use Rattle.history_reading.specs.CallFiles.{call_head_in, call_in}

-- ---- the order of the lines

-- whether a call of this worker may begin at this moment: if the earlier call has the same worker, it ended before
abbrev pub has_ended_before : Call → ℕ → ℕ → Bool
has_ended_before earlier worker begin = if nat_eq earlier.entry.worker worker then nat_lt earlier.end begin else true

-- whether a call may follow earlier ones: each of them began no later, and each one of the same worker ended before the
-- call begins
abbrev pub is_in_order : List Call → Call → Bool
is_in_order calls call =
    list_all (λ earlier. nat_le earlier.begin call.begin) calls
    && list_all (λ earlier. has_ended_before earlier call.entry.worker call.begin) calls

-- ---- the reading of a text

-- why the reading of a text stops: a fault of the text, or the line of a call that is out of order
pub data CallFault : Type 0 where
  OfText : TextFault → CallFault
  OutOfOrder : ℕ → CallFault

-- what a line is read as: the head of a history, or a call
pub data CallLine : Type 0 where
  Head : CallLine
  OfCall : Call → CallLine

-- the calls before the first fault, and that fault
pub record CallReading : Type 0 where
  pub calls : List Call
  pub fault : Option CallFault

-- what the first line is read as: the head, or its fault
abbrev pub head_line : Result (Unit {0}) FaultKind → Result CallLine CallFault
head_line (Ok head) = Ok Head
head_line (Err kind) = Err (OfText (fault_at 1 kind))

-- what a later line, after `lines` lines and these calls, is read as: a call that is in order, or its fault
abbrev pub call_line : ℕ → List Call → Result Call FaultKind → Result CallLine CallFault
call_line lines calls (Ok call) = if is_in_order calls call then Ok (OfCall call) else Err (OutOfOrder (lines + 1))
call_line lines calls (Err kind) = Err (OfText (fault_at (lines + 1) kind))

-- what the next line, after `lines` lines and these calls, is read as, or its fault
abbrev pub next_in : ℕ → List Call → List ℕ → Result CallLine CallFault
next_in lines calls line =
    if is_full lines then Err (OfText too_long)
    else (if nat_eq lines 0 then head_line (call_head_in line) else call_line lines calls (call_in line))

-- the reading from a line on, by what this line is read as and the reading of the later lines: a fault ends the reading
abbrev pub read_on : Result CallLine CallFault → List Call → (List Call → CallReading) → CallReading
read_on (Ok Head) calls later = later calls
read_on (Ok (OfCall call)) calls later = later (calls ++ call ∷ [])
read_on (Err fault) calls later = record { calls = calls; fault = Some fault }

-- the reading of these lines, which follow `lines` lines and these calls; the last of them is the bytes after the last
-- line end
abbrev pub calls_from : ℕ → List Call → List (List ℕ) → CallReading
calls_from lines calls [] = record { calls = calls; fault = None }
calls_from lines calls (rest ∷ []) = record { calls = calls; fault = option_map OfText (end_fault lines rest) }
calls_from lines calls (line ∷ next ∷ more) = read_on (next_in lines calls line) calls (λ behind. calls_from (lines + 1) behind (next ∷ more))

-- the reading of a text
abbrev pub calls_of : List ℕ → CallReading
calls_of text = calls_from 0 [] (text_lines text)
