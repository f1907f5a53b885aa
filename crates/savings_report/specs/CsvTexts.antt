-- The numbers of each interval, as comma-separated values.
use Rattle.std.specs.Prelude.{ℕ, ◌+◌, ◌++◌, min, List, [], ◌∷◌, codes, decimal}
use Rattle.std.specs.List.{flat_map}
use Rattle.savings_report.specs.Courses.{Series, series_of}
use Rattle.savings_report.specs.declared.plot.spans.Interval.{Interval}
use Rattle.savings_report.specs.declared.table.samples.Sample.{Sample}
use Rattle.savings_report.specs.declared.table.samples.Window.{Window}

-- the names of the numbers of a line
unfoldable pub header_line : List ℕ
header_line = codes "call,without,with,perfect,live,large,empty_without,empty_with,without_least,without_most,with_least,with_most\n"

-- a line of numbers, separated by commas: the first number, and each other number after a comma
unfoldable pub numbers_line : ℕ → List ℕ → List ℕ
numbers_line first others = decimal first ++ flat_map (λ n. codes "," ++ decimal n) others ++ codes "\n"

-- the line of an interval: its last call, the seven numbers after this call, and the least and the greatest number of
-- pages of each heap
unfoldable pub interval_line : ℕ → Interval → List ℕ
interval_line call i =
    numbers_line call
    (i.last.without ∷ i.last.with ∷ i.last.perfect ∷ i.last.live ∷ i.last.large ∷ i.last.empty_without ∷ i.last.empty_with
    ∷ i.without.least ∷ i.without.greatest ∷ i.with.least ∷ i.with.greatest ∷ [])

-- the lines of intervals that begin after the call number `done`. An interval has `width` calls, but none after the
-- call number `last`
abbrev pub interval_lines : ℕ → ℕ → ℕ → List Interval → List ℕ
interval_lines width last done [] = []
interval_lines width last done (i ∷ is) = interval_line (min (done + width) last) i ++ interval_lines width last (min (done + width) last) is

-- the header, and a line for each interval of a series
abbrev pub series_text : Series → List ℕ
series_text series = header_line ++ interval_lines series.width series.last series.before series.intervals

-- the whole text
abbrev pub csv_text : Window → List Sample → List ℕ
csv_text window samples = series_text (series_of window samples)
