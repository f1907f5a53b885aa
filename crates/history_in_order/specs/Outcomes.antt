-- What is found of a text: a legal history, a rejected entry, or a fault.
use Rattle.std.specs.Prelude.{◌≡◌, ◌⊎◌, ℕ, ◌+◌, ◌-◌, true, false, List, [], ◌∷◌, Option, Some, None, Ok, Err}
use Rattle.model_jobs.specs.JobFiles.{fault_at}
use Rattle.model_history.specs.Recorded.{Recorded, RecordedStep, any_allocator, nothing_recorded}
use Rattle.model_words.specs.declared.faults.FaultKind.{FaultKind}
use Rattle.model_words.specs.declared.faults.TextFault.{TextFault}
use Rattle.text_fields.specs.Lines.{text_lines}
use Rattle.history_reading.specs.Readings.{Head, LineRead, OfEntry, line_in}
use Rattle.text_devices.specs.Ends.{end_fault, is_full, too_long}
use Rattle.history_in_order.specs.declared.verdicts.Verdict.{Verdict}
use Rattle.history_in_order.specs.declared.verdicts.Verdict.TheVariants.{Legal as IsLegal, Wrong as IsWrong}

-- what is found of a text: it is a legal history of this number of entries, the entry on this line is the first that is
-- rejected, or there is a fault before any rejected entry
pub data Outcome : Type 0 where
  Legal : ℕ → Outcome
  Wrong : ℕ → Outcome
  Faulty : TextFault → Outcome

-- the outcome that a verdict reports
abbrev pub outcome_of : Verdict → Outcome
outcome_of (IsLegal entries) = Legal entries
outcome_of (IsWrong line reason) = Wrong line

-- the line leads from `r` to `n`: a head changes nothing, and an entry is a recorded step
abbrev pub LeadsTo : Recorded → LineRead → Recorded → Type 0
LeadsTo r Head n = n ≡ r
LeadsTo r (OfEntry entry) n = RecordedStep any_allocator r entry.command entry.reply n

-- a line after `lines` lines has no fault, and leads from `r` to `n`
abbrev pub IsTakenLine : ℕ → Recorded → List ℕ → Recorded → Type 0
IsTakenLine lines r line n = (is_full lines ≡ false) × ((read : LineRead) × (line_in lines line ≡ Ok read) × LeadsTo r read n)

-- a line after `lines` lines has a fault, which is the outcome
abbrev pub IsFaultyLine : ℕ → Recorded → List ℕ → Outcome → Type 0
IsFaultyLine lines r line o = (is_full lines ≡ false) × ((kind : FaultKind) × (line_in lines line ≡ Err kind) × (o ≡ Faulty (fault_at (lines + 1) kind)))

-- a line after `lines` lines is an entry that is no recorded step, and the outcome rejects it
abbrev pub IsWrongLine : ℕ → Recorded → List ℕ → Outcome → Type 0
IsWrongLine lines r line o = (is_full lines ≡ false) × ((read : LineRead) × (line_in lines line ≡ Ok read) × ((n : Recorded) → LeadsTo r read n → ⊥) × (o ≡ Wrong (lines + 1)))

-- a line after `lines` lines ends the check with this outcome: it has a fault, is a rejected entry, or is one line too
-- many
abbrev pub IsStopLine : ℕ → Recorded → List ℕ → Outcome → Type 0
IsStopLine lines r line o = IsFaultyLine lines r line o ⊎ (IsWrongLine lines r line o ⊎ ((is_full lines ≡ true) × (o ≡ Faulty too_long)))

-- the outcome of a text that ends after `lines` lines, which are the head and entries: it is legal if it has no fault
-- there
abbrev pub ended : ℕ → Option TextFault → Outcome
ended lines None = Legal (lines - 1)
ended lines (Some fault) = Faulty fault

-- the outcome of a text that ends after `lines` lines and then the bytes `rest`, without a line end
abbrev pub end_of : ℕ → List ℕ → Outcome
end_of lines rest = ended lines (end_fault lines rest)

-- the outcome of these lines, which follow `lines` lines; the last of them is the bytes after the last line end
abbrev pub IsJudged : ℕ → Recorded → List (List ℕ) → Outcome → Type 0
IsJudged lines r [] o = ⊥
IsJudged lines r (rest ∷ []) o = o ≡ end_of lines rest
IsJudged lines r (line ∷ next ∷ more) o =
    IsStopLine lines r line o ⊎ ((n : Recorded) × IsTakenLine lines r line n × IsJudged (lines + 1) n (next ∷ more) o)

-- the outcome of a text
abbrev pub IsVerdict : List ℕ → Outcome → Type 0
IsVerdict text o = IsJudged 0 (nothing_recorded any_allocator) (text_lines text) o
