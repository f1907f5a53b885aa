use Rattle.std.proofs.Common.{◌≡◌, ◌++◌}
use Rattle.explore_report.specs.Sorting.{entry_values}
use Rattle.explore_report.proofs.sorted.values_of.Given as goal

abbrev pub invariant-loop-value : goal.invariant-loop-value
invariant-loop-value g l = l.values.items ++ l.value-iterator ≡ entry_values l.sorted.entries
