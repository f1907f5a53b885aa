-- What was gathered of samples, for the form that the options ask for.
use Rattle.std.specs.Prelude.{◌≡◌, ℕ, List}
use Rattle.savings_report.specs.Figures.{IsOf as AreFiguresOf}
use Rattle.savings_report.specs.declared.table.samples.Sample.{Sample}
use Rattle.savings_report.specs.Intervals.{IsOf as AreCurvesOf}
use Rattle.savings_report.specs.declared.gathered.Gathered.{Gathered}
use Rattle.savings_report.specs.declared.gathered.Gathered.TheVariants.{Csv, Plot, Table}
use Rattle.savings_report.specs.declared.options.Form.TheVariants.{Csv as OfCsv, Plot as OfPlot, Table as OfTable}
use Rattle.savings_report.specs.declared.options.SavingsOptions.{SavingsOptions}

-- this was gathered for the form that the options ask for, and of these samples, one after each call
abbrev pub IsOf : Gathered → SavingsOptions → List Sample → Type 0
IsOf (Table figures) options samples = (options.form ≡ OfTable) × AreFiguresOf figures options.window samples
IsOf (Plot curves) options samples = (options.form ≡ OfPlot) × AreCurvesOf curves options.window samples
IsOf (Csv curves) options samples = (options.form ≡ OfCsv) × AreCurvesOf curves options.window samples

-- the number of calls after which a sample was gathered
abbrev pub calls_in : Gathered → ℕ
calls_in (Table figures) = figures.calls
calls_in (Plot curves) = curves.calls
calls_in (Csv curves) = curves.calls
