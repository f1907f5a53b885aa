use Rattle.std.proofs.Common.{◌≡◌, ◌++◌, drop}
use Rattle.savings_report.specs.Courses.{series_in}
use Rattle.savings_report.specs.PlotCurves.{curve_points, points_from}
use Rattle.savings_report.proofs.plot.lines.curve_points.Given as goal

-- the points so far and those of what is left are all points
abbrev pub invariant-loop-interval : goal.invariant-loop-interval
invariant-loop-interval l =
    l.points.items ++ points_from (series_in l.course) l.top l.curve l.done l.span_before (drop l.interval-index l.course.intervals.now)
    ≡ curve_points (series_in l.course) l.top l.curve
