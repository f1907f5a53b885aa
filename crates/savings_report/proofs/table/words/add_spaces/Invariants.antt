use Rattle.std.proofs.Common.{◌≡◌, ◌++◌, replicate}
use Rattle.savings_report.proofs.table.words.add_spaces.Given as goal

abbrev pub invariant-loop-added : goal.invariant-loop-added
invariant-loop-added l = l.text.items ≡ l.fn.text.items ++ replicate l._added 32
