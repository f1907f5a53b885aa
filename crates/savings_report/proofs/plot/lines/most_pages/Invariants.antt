use Rattle.std.proofs.Common.{◌≡◌, drop, max}
use Rattle.savings_report.specs.PlotCurves.{most_in}
use Rattle.savings_report.proofs.plot.lines.most_pages.Given as goal

abbrev pub invariant-loop-interval : goal.invariant-loop-interval
invariant-loop-interval l = max l.most (most_in (drop l.interval-index l.intervals)) ≡ most_in l.intervals
