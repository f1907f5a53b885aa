use Rattle.std.proofs.Common.{◌≡◌, ◌++◌, drop}
use Rattle.savings_report.specs.Courses.{series_in}
use Rattle.savings_report.specs.CsvTexts.{interval_lines, series_text}
use Rattle.savings_report.proofs.csv.series_text.Given as goal

-- the text so far and the lines of what is left are the whole text
abbrev pub invariant-loop-interval : goal.invariant-loop-interval
invariant-loop-interval l =
    l.text.items ++ interval_lines l.course.width l.course.last l.call (drop l.interval-index l.course.intervals.now) ≡ series_text (series_in l.course)
