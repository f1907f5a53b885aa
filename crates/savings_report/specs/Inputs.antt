-- The report of the history that a device gives.
use Rattle.std.specs.Prelude.{◌≡◌, ◌⊎◌, ℕ, List, ◌++◌, Option}
use Rattle.std.specs.Io.KnownBytes.{Consumes, IsAtEnd}
use Rattle.text_devices.specs.declared.faults.ReplayError.TheVariants.{Read, Write, Text, Memory}
use Rattle.savings_report.specs.declared.table.samples.Sample.{Sample}
use Rattle.savings_replay.specs.Followed.{Followed}
use Rattle.savings_replay.specs.declared.settings.Settings.{Settings}
use Rattle.savings_report.specs.Reports.{Faulty, IsShown, NotHistory, Report, report_of, report_with}
use Rattle.savings_report.specs.Runs.{IsRun}
use Rattle.savings_report.specs.declared.errors.SavingsError.{SavingsError}
use Rattle.savings_report.specs.declared.errors.SavingsError.TheVariants.{Replay, NotAHistory}
use Rattle.savings_report.specs.declared.options.SavingsOptions.{SavingsOptions}
use Rattle.savings_report.specs.declared.runs.Run.{Run}

-- this is the report of the text that was read: either whatever follows, or because the input ended there
pub record HasReported (settings : Settings) (left left' : Option (List ℕ)) (report : Report) : Type 0 where
  pub text : List ℕ
  pub taken : Consumes left left' text
  pub reported : ((more : List ℕ) → report_of settings (text ++ more) ≡ report) ⊎ ((report_of settings text ≡ report) × IsAtEnd left')

-- the text shows the report of the history
pub record HasShown (options : SavingsOptions) (left left' : Option (List ℕ)) (used_up : Option ℕ) (text : List ℕ) : Type 0 where
  pub followed : Followed
  pub samples : List Sample
  pub reported : HasReported options.settings left left' (report_with used_up followed samples)
  pub shown : IsShown options followed samples text

-- why nothing is shown: the history's text has this fault, or the entry on this line belongs to no history. `Read` and
-- `Memory` claim nothing, and no `Write` occurs
abbrev pub HasNotReported : SavingsOptions → Option (List ℕ) → Option (List ℕ) → SavingsError → Type 0
HasNotReported options left left' (NotAHistory line) = HasReported options.settings left left' (NotHistory line)
HasNotReported options left left' (Replay (Text fault)) = HasReported options.settings left left' (Faulty fault)
HasNotReported options left left' (Replay Read) = Unit {0}
HasNotReported options left left' (Replay Memory) = Unit {0}
HasNotReported options left left' (Replay Write) = ⊥

-- the report of the history is what the run's calls led to
pub record HasFollowed (run : Run) (options : SavingsOptions) (left left' : Option (List ℕ)) (used_up : Option ℕ) : Type 0 where
  pub followed : Followed
  pub samples : List Sample
  pub is_run : IsRun run options followed samples
  pub reported : HasReported options.settings left left' (report_with used_up followed samples)
