-- The four curves over the measured calls, cut into intervals of equally many calls; only the last may have fewer.
use Rattle.std.specs.Prelude.{◌≡◌, ℕ, ◌*◌, ◌^◌, ◌<◌, ◌≤◌, min, List, [], ◌∷◌, length, map, take, drop, slice_index_or}
use Rattle.std.specs.Int.{div_ceil}
use Rattle.savings_report.specs.FigureSamples.{live_pages, measured, peak, total}
use Rattle.savings_report.specs.declared.table.samples.Sample.{Sample}
use Rattle.savings_report.specs.declared.table.samples.Window.{Window}
use Rattle.savings_report.specs.declared.plot.readings.Reading.{Reading}
use Rattle.savings_report.specs.declared.plot.spans.Span.{Span}
use Rattle.savings_report.specs.declared.plot.spans.Interval.{Interval}
use Rattle.savings_report.specs.declared.plot.intervals.Intervals.{Intervals}

-- the numbers after a call: the values of the four curves (the pages of all classes together, and the live bytes in
-- whole pages, rounded up), the pages of large objects, and the pages of empty groups
abbrev pub reading : Sample → Reading
reading sample =
    record {
      without = total sample.without;
      with = total sample.with;
      perfect = total sample.perfect;
      live = live_pages sample;
      large = sample.large_pages;
      empty_without = sample.empty_without;
      empty_with = sample.empty_with;
    }

-- the numbers after each measured call
abbrev pub readings : Window → List Sample → List Reading
readings window samples = map reading (measured window samples)

-- the least of `m` and these numbers
abbrev pub least_with : ℕ → List ℕ → ℕ
least_with m [] = m
least_with m (n ∷ ns) = least_with (min m n) ns

-- the least number, 0 for none
abbrev pub least : List ℕ → ℕ
least [] = 0
least (n ∷ ns) = least_with n ns

-- the least and the greatest number
abbrev pub span_of : List ℕ → Span
span_of ns = record { least = least ns; greatest = peak ns }

abbrev pub no_reading : Reading
no_reading = record { without = 0; with = 0; perfect = 0; live = 0; large = 0; empty_without = 0; empty_with = 0 }

-- the last of `r` and these readings
abbrev pub last_with : Reading → List Reading → Reading
last_with r [] = r
last_with r (s ∷ rs) = last_with s rs

-- the last reading, zeros for none
abbrev pub last_reading : List Reading → Reading
last_reading [] = no_reading
last_reading (r ∷ rs) = last_with r rs

-- the last reading, and the least and the greatest value of each curve
abbrev pub interval_of : List Reading → Interval
interval_of rs =
    record {
      last = last_reading rs;
      without = span_of (map (λ (r : Reading). r.without) rs);
      with = span_of (map (λ (r : Reading). r.with) rs);
      perfect = span_of (map (λ (r : Reading). r.perfect) rs);
      live = span_of (map (λ (r : Reading). r.live) rs);
    }

-- the piece number `k`, counted from 0, of readings that are cut into pieces of this width; the last may be shorter
abbrev pub piece : ℕ → ℕ → List Reading → List Reading
piece width k rs = take width (drop (k * width) rs)

-- `width` is the least power of two for which `n` calls make at most 600 intervals
pub record IsWidth (width n : ℕ) : Type 0 where
  pub exponent : ℕ
  pub power_is : width ≡ 2 ^ exponent
  pub enough : n ≤ 600 * width
  pub no_less : (e : ℕ) → n ≤ 600 * 2 ^ e → exponent ≤ e

abbrev pub no_span : Span
no_span = record { least = 0; greatest = 0 }

abbrev pub no_interval : Interval
no_interval = record { last = no_reading; without = no_span; with = no_span; perfect = no_span; live = no_span }

abbrev pub interval_at : List Interval → ℕ → Interval
interval_at intervals k = slice_index_or intervals k no_interval

-- what a contract sees of `Curves`: the window of calls to measure, the number of calls so far, the number of measured
-- calls, the calls of an interval, and the intervals
pub record Gathered : Type 0 where
  pub window : Window
  pub calls : ℕ
  pub count : ℕ
  pub width : ℕ
  pub intervals : List Interval

-- the curves are right for this window after these samples, one for each call
pub record IsOf (curves : Gathered) (w : Window) (samples : List Sample) : Type 0 where
  pub window_is : curves.window ≡ w
  pub calls_are : curves.calls ≡ length samples
  pub count_is : curves.count ≡ length (measured w samples)
  pub width_is : IsWidth curves.width (length (measured w samples))
  pub intervals_are : length curves.intervals ≡ div_ceil (length (measured w samples)) curves.width
  pub each_is : (k : ℕ) → k < length curves.intervals → interval_at curves.intervals k ≡ interval_of (piece curves.width k (readings w samples))

-- the intervals are right for these readings
pub record AreOf (intervals : Intervals) (rs : List Reading) : Type 0 where
  pub count_is : intervals.count ≡ length rs
  pub width_is : IsWidth intervals.width (length rs)
  pub each_is : (k : ℕ) → k * intervals.width < length rs → interval_at intervals.list.items k ≡ interval_of (piece intervals.width k rs)

-- the list has room for 600 intervals, an interval has at least one call, and the readings make at most 600 intervals
pub record IsSound (intervals : Intervals) : Type 0 where
  pub room : length intervals.list.items ≡ 600
  pub wide : 0 < intervals.width
  pub few : intervals.count ≤ 600 * intervals.width
