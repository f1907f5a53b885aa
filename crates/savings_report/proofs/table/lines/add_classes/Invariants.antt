use Rattle.std.proofs.Common.{◌≡◌, ℕ, ◌-◌, ◌++◌, List}
use Rattle.std.specs.List.{flat_map, range_with_len}
use Rattle.savings_report.specs.Figures.{IsMeasured}
use Rattle.savings_report.specs.FigureTexts.{used_line}
use Rattle.savings_report.specs.declared.table.samples.Sample.{Sample}
use Rattle.savings_report.proofs.table.lines.add_classes.Given as goal

-- the lines so far and those of what is left are those of all classes
abbrev pub invariant-loop-k : goal.invariant-loop-k
invariant-loop-k l =
    (first : ℕ) (samples : List Sample) → IsMeasured l.fn.measured first samples
    → l.text.items ++ flat_map (used_line l.used samples) (range_with_len l.k (10 - l.k))
    ≡ l.fn.text.items ++ flat_map (used_line l.used samples) (range_with_len 0 10)
