-- What `Figures` gathered of samples.
use Rattle.std.specs.Prelude.{◌≡◌, ℕ, ◌+◌, ◌-◌, ◌*◌, ◌^◌, ◌<◌, ◌≤◌, Bool, true, false, List, [], ◌∷◌, ◌++◌, length, map, slice_index, slice_index_or, replicate, sum, Option, Some, None}
use Rattle.std.specs.List.{AllByRecursion}
use Rattle.savings_report.specs.FigureSamples.{measured, first_call, total, of_class, live_pages, all_without, all_with, peak, moments_from, saves_no_less, lives_no_less}
use Rattle.savings_report.specs.declared.table.samples.Sample.{Sample}
use Rattle.savings_report.specs.declared.table.samples.Window.{Window}
use Rattle.savings_report.specs.declared.table.levels.Level.{Level}
use Rattle.savings_report.specs.declared.table.levels.Column.{Column}
use Rattle.savings_report.specs.declared.table.levels.Levels.{Levels}
use Rattle.savings_report.specs.declared.table.moments.Moment.{Moment}
use Rattle.savings_report.specs.declared.table.pages.Row.{Row}
use Rattle.savings_report.specs.declared.table.measured.Measured.{Measured}

-- what a contract sees of `Figures`: the window of calls to measure, the number of calls so far, and what was measured
pub record Gathered : Type 0 where
  pub window : Window
  pub calls : ℕ
  pub measured : Measured

-- the level has the greatest of these numbers and their sum
pub record IsLevel (level : Level) (ns : List ℕ) : Type 0 where
  pub peak_is : level.peak ≡ peak ns
  pub sum_is : level.sum ≡ sum ns

-- the sum of a class: the sum that was kept, and the pages of the last samples, which are equal
abbrev pub class_sum : Column → ℕ → ℕ
class_sum column k = slice_index column.sums k + column.repeats * slice_index column.pages k

-- of a list of pages by class, the column has the level of the totals, and the sum of each class
pub record IsColumn (column : Column) (pages : List (List ℕ)) : Type 0 where
  pub total_is : IsLevel column.total (map total pages)
  pub sums_are : (k : ℕ) → k < 10 → class_sum column k ≡ sum (map (of_class k) pages)

-- the levels of these samples' numbers that are not divided into classes
pub record AreLevels (levels : Levels) (samples : List Sample) : Type 0 where
  pub live_is : IsLevel levels.live (map live_pages samples)
  pub large_is : IsLevel levels.large (map (λ (s : Sample). s.large_pages) samples)
  pub all_without_is : IsLevel levels.all_without (map all_without samples)
  pub all_with_is : IsLevel levels.all_with (map all_with samples)
  pub empty_without_is : IsLevel levels.empty_without (map (λ (s : Sample). s.empty_without) samples)
  pub empty_with_is : IsLevel levels.empty_with (map (λ (s : Sample). s.empty_with) samples)

-- the sample without pages and bytes
abbrev pub no_sample : Sample
no_sample =
    record {
      without = replicate 10 0;
      with = replicate 10 0;
      perfect = replicate 10 0;
      live_bytes = 0;
      large_pages = 0;
      empty_without = 0;
      empty_with = 0;
    }

-- the last sample, or one without pages if there is none
abbrev pub last_sample : List Sample → Sample
last_sample samples = slice_index_or samples (length samples - 1) no_sample

-- by this comparison, each moment before `best` is less, and none after it is greater
pub record IsFirstBest (no_less : Moment → Moment → Bool) (best : Moment) (moments before after : List Moment) : Type 0 where
  pub split : moments ≡ before ++ best ∷ after
  pub earlier : AllByRecursion (λ (m : Moment). no_less m best ≡ false) before
  pub later : AllByRecursion (λ (m : Moment). no_less best m ≡ true) after

-- the first moment that is no less than any other by this comparison, or `None` if there are no moments
abbrev pub IsMost : (Moment → Moment → Bool) → Option Moment → List Moment → Type 0
IsMost no_less None moments = moments ≡ []
IsMost no_less (Some best) moments = (before after : List Moment) × IsFirstBest no_less best moments before after

-- what was measured is right for these samples, taken after calls in a row, the first of which has the number `first`
pub record IsMeasured (m : Measured) (first : ℕ) (samples : List Sample) : Type 0 where
  pub count_is : m.count ≡ length samples
  pub end_is : m.end ≡ last_sample samples
  pub without_is : IsColumn m.without (map (λ (s : Sample). s.without) samples)
  pub with_is : IsColumn m.with (map (λ (s : Sample). s.with) samples)
  pub perfect_is : IsColumn m.perfect (map (λ (s : Sample). s.perfect) samples)
  pub levels_are : AreLevels m.levels samples
  pub most_saved_is : IsMost saves_no_less m.most_saved (moments_from first samples)
  pub most_live_is : IsMost lives_no_less m.most_live (moments_from first samples)

-- the figures are right for this window after these samples, one for each call
pub record IsOf (figures : Gathered) (w : Window) (samples : List Sample) : Type 0 where
  pub window_is : figures.window ≡ w
  pub calls_are : figures.calls ≡ length samples
  pub measured_is : IsMeasured figures.measured (first_call w) (measured w samples)

-- the level of `count` numbers, each of which is at most `most`, is within bounds
pub record IsLevelIn (level : Level) (most count : ℕ) : Type 0 where
  pub peak_in : level.peak ≤ most
  pub sum_in : level.sum ≤ count * most

-- the level of a column of `count` samples has at most 1,310,720 pages for each sample, and the sum of each class is at
-- most 131,072 pages for each sample. The last samples that are equal are some of them, and their total is kept
pub record IsColumnIn (column : Column) (count : ℕ) : Type 0 where
  pub total_in : IsLevelIn column.total 1310720 count
  pub sums_in : (k : ℕ) → k < 10 → class_sum column k ≤ count * 131072
  pub repeats_in : column.repeats ≤ count
  pub all_is : column.all ≡ sum column.pages

-- the levels of `count` samples' numbers are within bounds
pub record AreLevelsIn (levels : Levels) (count : ℕ) : Type 0 where
  pub live_in : IsLevelIn levels.live 268435456 count
  pub large_in : IsLevelIn levels.large (2 ^ 84) count
  pub all_without_in : IsLevelIn levels.all_without (2 ^ 85) count
  pub all_with_in : IsLevelIn levels.all_with (2 ^ 85) count
  pub empty_without_in : IsLevelIn levels.empty_without 131072 count
  pub empty_with_in : IsLevelIn levels.empty_with 131072 count

-- the pages of large objects at a moment are within bounds
abbrev pub IsMomentIn : Option Moment → Type 0
IsMomentIn None = Unit
IsMomentIn (Some moment) = moment.large_pages ≤ 2 ^ 84

-- the total pages of a sample are within bounds
pub record IsSampleIn (sample : Sample) : Type 0 where
  pub without_in : total sample.without ≤ 1310720
  pub with_in : total sample.with ≤ 1310720
  pub perfect_in : total sample.perfect ≤ 1310720
  pub large_in : sample.large_pages ≤ 2 ^ 84

-- what was measured is within bounds
pub record IsInBounds (m : Measured) : Type 0 where
  pub without_in : IsColumnIn m.without m.count
  pub with_in : IsColumnIn m.with m.count
  pub perfect_in : IsColumnIn m.perfect m.count
  pub levels_in : AreLevelsIn m.levels m.count
  pub end_in : IsSampleIn m.end
  pub most_live_in : IsMomentIn m.most_live

-- 1,000 times the numbers of a row whose shares are printed are below 2 ^ 128
pub record IsSmall (row : Row) : Type 0 where
  pub without : row.small.without < 2 ^ 118
  pub with : row.small.with < 2 ^ 118
  pub all_without : row.all.without < 2 ^ 118
  pub all_with : row.all.with < 2 ^ 118
