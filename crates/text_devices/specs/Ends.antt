-- The faults of a text that ends too early, or has too many lines or too long ones.
use Rattle.std.specs.Prelude.{ℕ, ◌+◌, Bool, if◌then◌else◌, nat_eq, nat_le, List, Option, Some, None}
use Rattle.model_jobs.specs.JobFiles.{fault_at, is_empty}
use Rattle.model_words.specs.declared.faults.FaultKind.TheVariants.{Cut, LongLine, TooLong}
use Rattle.model_words.specs.declared.faults.TextFault.{TextFault}
use Rattle.text_fields.specs.KeptLines.{rest_fault}

-- whether a history with this number of lines may have no further line
abbrev pub is_full : ℕ → Bool
is_full lines = nat_le 4294967295 lines

-- the fault of a text with more lines than a history may have
abbrev pub too_long : TextFault
too_long = fault_at 0 TooLong

-- the fault of a line with too many bytes that follows `lines` lines
abbrev pub long_line : ℕ → TextFault
long_line lines = if is_full lines then too_long else fault_at (lines + 1) LongLine

-- the fault, if any, of a text that ends after `lines` lines and then the bytes `rest`, without a line end: there is no
-- line, bytes follow the last line end, or there are too many lines
abbrev pub end_fault : ℕ → List ℕ → Option TextFault
end_fault lines rest =
    if is_full lines then (if is_empty rest then None else Some too_long)
    else (if is_empty rest then (if nat_eq lines 0 then Some (fault_at 1 Cut) else None) else Some (fault_at (lines + 1) (rest_fault 16384 rest)))
