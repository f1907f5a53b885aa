-- What a report on what meshing saves writes, and what was read and written if it stops.
use Rattle.std.specs.Prelude.{◌≡◌, ◌<◌, ◌≤◌, ◌⊎◌, ℕ, Bool, if◌then◌else◌, List, ◌++◌, Option, Some, None, codes, decimal}
use Rattle.std.specs.Io.KnownBytes.{Appends, Keeps}
use Rattle.model_jobs.specs.Texts.{ended}
use Rattle.run_command_line.specs.declared.savings_args.FiguresForm.{FiguresForm}
use Rattle.run_command_line.specs.declared.savings_args.FiguresForm.TheVariants.{Csv as CsvAsked, Plot as PlotAsked, Table as TableAsked}
use Rattle.run_command_line.specs.declared.savings_args.RoundsAsked.{RoundsAsked}
use Rattle.run_command_line.specs.declared.savings_args.RoundsAsked.TheVariants.{Every as EveryAsked, Share as ShareAsked}
use Rattle.run_command_line.specs.declared.savings_args.SavingsArgs.{SavingsArgs}
use Rattle.text_devices.specs.Transfer.{AppendsBeginning}
use Rattle.text_devices.specs.declared.faults.ReplayError.TheVariants.{Read, Write, Memory, Text}
use Rattle.run_program.specs.Runs.{HasFailed, HasTold, IsDone, IsSound, IsStoppedFor, error_text}
use Rattle.run_program.specs.Seen.{Seen}
use Rattle.run_program.specs.Status.{status_of_error}
use Rattle.savings_replay.specs.declared.settings.Rounds.{Rounds}
use Rattle.savings_replay.specs.declared.settings.Rounds.TheVariants.{Every, Share}
use Rattle.savings_replay.specs.declared.settings.Words.{Words}
use Rattle.savings_replay.specs.declared.settings.Words.TheVariants.{FirstFit, Seeded}
use Rattle.savings_report.specs.Inputs.{HasReported, HasShown}
use Rattle.savings_report.specs.Reports.{Faulty, NotHistory}
use Rattle.savings_report.specs.declared.errors.SavingsError.{SavingsError}
use Rattle.savings_report.specs.declared.errors.SavingsError.TheVariants.{NotAHistory, Replay}
use Rattle.savings_report.specs.declared.options.Form.{Form}
use Rattle.savings_report.specs.declared.options.Form.TheVariants.{Csv, Plot, Table}
use Rattle.savings_report.specs.declared.options.SavingsOptions.{SavingsOptions}

-- how the words of the objects are made: from the seed, or for first fit if there is no seed
abbrev pub words_of_seed : Option ℕ → Words
words_of_seed (Some seed) = Seeded seed
words_of_seed None = FirstFit

-- when rounds are made
abbrev pub rounds_of : RoundsAsked → Rounds
rounds_of (EveryAsked frees) = Every frees
rounds_of (ShareAsked part) = Share part

-- the form of the figures
abbrev pub form_of : FiguresForm → Form
form_of TableAsked = Table
form_of PlotAsked = Plot
form_of CsvAsked = Csv

-- the options of a report: how the history is followed, which calls the figures are of, and their form
abbrev pub options_of : SavingsArgs → SavingsOptions
options_of args = record {
  settings = record { rounds = rounds_of args.rounds; members = args.members; probe = args.probe; words = words_of_seed args.seed };
  window = record { from = args.from; to = args.to };
  form = form_of args.form;
}

-- the line that names the call for which a heap had no virtual pages left, without the line's end
abbrev pub used_up_text : ℕ → List ℕ
used_up_text call = codes "addresses used up at call " ++ decimal call

-- an error's line, without its end
abbrev pub savings_text : SavingsError → List ℕ
savings_text (Replay error) = error_text error
savings_text (NotAHistory line) = codes "line " ++ decimal line ++ codes ": not a history"

-- the status of an error that stops a report: 2 if the text has a fault or is no history, otherwise 1
abbrev pub savings_status : SavingsError → ℕ
savings_status (Replay error) = status_of_error error
savings_status (NotAHistory line) = 2

-- the device that the error names, if any, has failed
abbrev pub HasFailedSavings : Bool → Bool → SavingsError → Type 0
HasFailedSavings input output (Replay error) = HasFailed input output error
HasFailedSavings input output (NotAHistory line) = Unit {0}

-- the table or the plot was written: of the whole history, or, if a heap had no virtual pages left at call `used_up`,
-- of the calls before it
abbrev pub HasWrittenReport : SavingsOptions → Option (List ℕ) → Option (List ℕ) → Option (List ℕ) → Option (List ℕ) → Option ℕ → Type 0
HasWrittenReport options left left' written written' used_up =
    (text : List ℕ) × HasShown options left left' used_up text × Appends written written' text

-- a beginning of the table or the plot was written
abbrev pub HasBegunReport : SavingsOptions → Option (List ℕ) → Option (List ℕ) → Option (List ℕ) → Option (List ℕ) → Type 0
HasBegunReport options left left' written written' =
    (used_up : Option ℕ) × (text : List ℕ) × HasShown options left left' used_up text × AppendsBeginning written written' text

-- what was read and written before a report stopped for this error
abbrev pub HasStoppedSavings : SavingsOptions → Option (List ℕ) → Option (List ℕ) → Option (List ℕ) → Option (List ℕ) → SavingsError → Type 0
HasStoppedSavings options left left' written written' (NotAHistory line) = HasReported options.settings left left' (NotHistory line) × Keeps written written'
HasStoppedSavings options left left' written written' (Replay (Text fault)) = HasReported options.settings left left' (Faulty fault) × Keeps written written'
HasStoppedSavings options left left' written written' (Replay Write) = HasBegunReport options left left' written written'
HasStoppedSavings options left left' written written' (Replay Read) = Keeps written written'
HasStoppedSavings options left left' written written' (Replay Memory) = Keeps written written'

-- a heap had no virtual pages left at this call: the table or the plot of the calls before it was written. Neither the
-- input nor the output failed, and the line that names the call was printed
pub record IsUsedUp (options : SavingsOptions) (before after : Seen) (call : ℕ) : Type 0 where
  pub written : HasWrittenReport options before.left after.left before.written after.written (Some call)
  pub sound : IsSound after
  pub told : HasTold after.errors_failed before.told after.told (ended (used_up_text call))

-- how a report ends. If the status is 0, the table or the plot of the whole history was written. Otherwise the report
-- stopped for an error with this status, or the status is 4 and `IsUsedUp` holds of some call. The status is at most 4
pub record EndsSavings (options : SavingsOptions) (before after : Seen) (status : ℕ) : Type 0 where
  pub done : status ≡ 0 → IsDone (λ left left' written written'. HasWrittenReport options left left' written written' None) before after
  pub stopped : 0 < status → ((status ≡ 4) × ((call : ℕ) × IsUsedUp options before after call))
      ⊎ ((error : SavingsError) × (status ≡ savings_status error) × IsStoppedFor savings_text HasFailedSavings (HasStoppedSavings options) before after error)
  pub small : status ≤ 4
