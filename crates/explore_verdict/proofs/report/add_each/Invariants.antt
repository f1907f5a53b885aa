use Rattle.std.proofs.Common.{◌≡◌, ◌++◌, length}
use Rattle.explore_verdict.specs.Runs.{each_behind}
use Rattle.explore_verdict.proofs.report.add_each.Given as goal

abbrev pub invariant-loop-rest : goal.invariant-loop-rest
invariant-loop-rest l = l.text.items ++ each_behind l.line l.rest ≡ l.initial.text.items ++ each_behind l.line l.texts

abbrev pub decreases-loop-rest : goal.decreases-loop-rest
decreases-loop-rest l = length l.rest
