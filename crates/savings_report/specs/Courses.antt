-- The measured calls as a series of intervals, by definition.
use Rattle.std.specs.Prelude.{ℕ, zero, suc, ◌+◌, ◌-◌, ◌*◌, nat_eq, if◌then◌else◌, List, length, map}
use Rattle.std.specs.Int.{div_ceil}
use Rattle.std.specs.List.{range_with_len}
use Rattle.savings_report.specs.Intervals.{interval_of, piece, readings}
use Rattle.savings_report.specs.declared.plot.courses.Course.{Course}
use Rattle.savings_report.specs.declared.plot.readings.Reading.{Reading}
use Rattle.savings_report.specs.declared.plot.spans.Interval.{Interval}
use Rattle.savings_report.specs.declared.table.samples.Sample.{Sample}
use Rattle.savings_report.specs.declared.table.samples.Window.{Window}

-- the number of calls in a full interval after this many measured calls: 1 at first, and doubled when a call would
-- begin the 601st interval
unfoldable pub width_after : ℕ → ℕ
width_after zero = 1
width_after (suc n) = if nat_eq n (600 * width_after n) then 2 * width_after n else width_after n

-- the intervals of these readings, each of this many calls; the last may have fewer
abbrev pub intervals_of : ℕ → List Reading → List Interval
intervals_of width rs = map (λ k. interval_of (piece width k rs)) (range_with_len 0 (div_ceil (length rs) width))

-- a series of intervals: the number of calls before its first call, the number of its last call, the number of calls in
-- a full interval, and the intervals
pub record Series : Type 0 where
  pub before : ℕ
  pub last : ℕ
  pub width : ℕ
  pub intervals : List Interval

-- the series of readings that were taken after calls in a row, after this many calls before them
abbrev pub series_from : ℕ → List Reading → Series
series_from before rs =
    record {
      before = before;
      last = before + length rs;
      width = width_after (length rs);
      intervals = intervals_of (width_after (length rs)) rs;
    }

-- the series of the measured calls
unfoldable pub series_of : Window → List Sample → Series
series_of window samples = series_from (window.from - 1) (readings window samples)

-- what a course holds
abbrev pub series_in : Course → Series
series_in course = record { before = course.before; last = course.last; width = course.width; intervals = course.intervals.now }
