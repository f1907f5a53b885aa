-- The report of a recorded history: what its calls led to, or why there is no such result.
use Rattle.std.specs.Prelude.{◌≡◌, ℕ, ◌+◌, List, [], ◌∷◌, ◌++◌, Option, Some, None, length}
use Rattle.model_memory.specs.Plain.{Entry}
use Rattle.model_words.specs.declared.faults.TextFault.{TextFault}
use Rattle.savings_report.specs.Courses.{series_of}
use Rattle.savings_report.specs.CsvTexts.{csv_text}
use Rattle.savings_report.specs.FigureTexts.{figures_text}
use Rattle.savings_report.specs.PlotCurves.{IsPlot}
use Rattle.savings_report.specs.declared.table.samples.Counts.{Counts}
use Rattle.savings_report.specs.declared.table.samples.Sample.{Sample}
use Rattle.savings_report.specs.declared.table.samples.Window.{Window}
use Rattle.history_reading.specs.Readings.{reading_of}
use Rattle.savings_replay.specs.Calls.{call_of}
use Rattle.savings_replay.specs.Followed.{Followed, Goes, NoAddresses, NoObject, Outcome, start, step}
use Rattle.savings_replay.specs.declared.calls.Call.{Call}
use Rattle.savings_replay.specs.declared.settings.Settings.{Settings}
use Rattle.savings_report.specs.Samples.{counts_of, sample_of}
use Rattle.savings_report.specs.declared.options.Form.{Form}
use Rattle.savings_report.specs.declared.options.Form.TheVariants.{Csv, Plot, Table}
use Rattle.savings_report.specs.declared.options.SavingsOptions.{SavingsOptions}

-- the report of a history
pub data Report : Type 0 where
  -- all calls were made: the state after them, and a sample after each
  Whole : (f : Followed) (samples : List Sample) → Report
  -- a heap has too few virtual pages left for the call with this number, counted from 1; the state after the calls
  -- before it, and a sample after each of these
  UsedUp : (call : ℕ) (f : Followed) (samples : List Sample) → Report
  -- the first `free` or `alias` of a cell without a live object is on this line
  NotHistory : (line : ℕ) → Report
  -- the fault of the text
  Faulty : (fault : TextFault) → Report

-- the report at the end of a text with this fault or with none
abbrev pub at_end : Followed → List Sample → Option TextFault → Report
at_end f samples (Some fault) = Faulty fault
at_end f samples None = Whole f samples

-- the report from a call on, by the call's outcome and the report of what follows
abbrev pub by_outcome : Followed → List Sample → ℕ → Outcome → (Followed → List Sample → Report) → Report
by_outcome f samples line (Goes next) later = later next (samples ++ sample_of next ∷ [])
by_outcome f samples line NoObject later = NotHistory line
by_outcome f samples line NoAddresses later = UsedUp (length samples + 1) f samples

-- the report from an entry on, by the entry's call and the report of what follows: an entry without a call is skipped
abbrev pub by_call : Settings → Followed → List Sample → ℕ → Option Call → (Followed → List Sample → Report) → Report
by_call settings f samples line None later = later f samples
by_call settings f samples line (Some call) later = by_outcome f samples line (step settings f call) later

-- the report from these entries on, the first of which is on this line, if this fault or none follows them
abbrev pub reported : Settings → Followed → List Sample → ℕ → List Entry → Option TextFault → Report
reported settings f samples line [] fault = at_end f samples fault
reported settings f samples line (entry ∷ entries) fault =
    by_call settings f samples line (call_of entry) (λ next seen. reported settings next seen (line + 1) entries fault)

-- the report of a text, whose first line is the head, and whose entries begin on line 2
unfoldable pub report_of : Settings → List ℕ → Report
report_of settings text = let reading = reading_of text in reported settings (start settings) [] 2 reading.entries reading.fault

-- the report of what calls led to: those of the whole text, or those before the call with this number
abbrev pub report_with : Option ℕ → Followed → List Sample → Report
report_with None f samples = Whole f samples
report_with (Some call) f samples = UsedUp call f samples

-- the text shows these samples in this form: as the table, as a plot of the curves of the measured calls, or as the
-- numbers of each interval
abbrev pub IsShownAs : Form → Window → List Sample → Counts → List ℕ → Type 0
IsShownAs Table window samples counts text = text ≡ figures_text window samples counts
IsShownAs Plot window samples counts text = IsPlot (series_of window samples) text
IsShownAs Csv window samples counts text = text ≡ csv_text window samples

-- the text shows what calls led to, in the form that the options ask for
abbrev pub IsShown : SavingsOptions → Followed → List Sample → List ℕ → Type 0
IsShown options f samples text = IsShownAs options.form options.window samples (counts_of f) text
