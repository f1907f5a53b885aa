-- What holds of every sample that a run takes.
use Rattle.std.specs.Prelude.{◌≡◌, ℕ, ◌≤◌, List}
use Rattle.std.specs.List.{All}
use Rattle.savings_report.specs.FigureSamples.{last, live_pages, mean, measured, most_live, of_class, peak, row_at, row_by, total}
use Rattle.savings_report.specs.declared.table.pages.Row.{Row}
use Rattle.savings_report.specs.declared.table.samples.Sample.{Sample}
use Rattle.savings_report.specs.declared.table.samples.Window.{Window}
use Rattle.savings_replay.specs.Followed.{Goes, Followed, run, start}
use Rattle.savings_replay.specs.declared.calls.Call.{Call}
use Rattle.savings_replay.specs.declared.settings.Settings.{Settings}
use Rattle.savings_report.specs.Samples.{sample_of}

-- in each class, perfect packing needs at most the pages of each heap; in all classes together, it needs at least the
-- pages that the live bytes fill
pub record IsLeast (sample : Sample) : Type 0 where
  pub without : (k : ℕ) → of_class k sample.perfect ≤ of_class k sample.without
  pub with : (k : ℕ) → of_class k sample.perfect ≤ of_class k sample.with
  pub live : live_pages sample ≤ total sample.perfect

-- if calls can be made, then in the sample after them perfect packing needs at most the pages of each heap, and at
-- least those of the live bytes
abbrev pub PerfectIsLeast : Type 0
PerfectIsLeast = (settings : Settings) (calls : List Call) (f : Followed) → run settings (start settings) calls ≡ Goes f → IsLeast (sample_of f)

-- perfect packing needs at most the pages of each heap, and at least those of the live bytes
pub record IsLeastRow (row : Row) : Type 0 where
  pub without : row.small.perfect ≤ row.small.without
  pub with : row.small.perfect ≤ row.small.with
  pub live : row.live ≤ row.small.perfect

-- this holds of each row of the table of the measured samples
pub record AreLeastRows (window : Window) (samples : List Sample) : Type 0 where
  pub peaks : IsLeastRow (row_by peak (measured window samples))
  pub means : IsLeastRow (row_by mean (measured window samples))
  pub most_live : IsLeastRow (row_at (most_live window samples))
  pub ends : IsLeastRow (row_by last (measured window samples))

-- if in every sample perfect packing needs at most the pages of each heap and at least those of the live bytes, then
-- this holds of each row of the table too, whichever samples are measured
abbrev pub PerfectFiguresAreLeast : Type 0
PerfectFiguresAreLeast = (window : Window) (samples : List Sample) → All IsLeast samples → AreLeastRows window samples
