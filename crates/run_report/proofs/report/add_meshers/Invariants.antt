use Rattle.std.proofs.Common.{◌≡◌, ◌++◌, length}
use Rattle.std.specs.List.{flat_map}
use Rattle.run_report.specs.Reports.{mesher_line}
use Rattle.run_report.proofs.report.add_meshers.Given as goal

abbrev pub invariant-loop-rest : goal.invariant-loop-rest
invariant-loop-rest l = l.text.items ++ flat_map mesher_line l.rest ≡ l.initial.text.items ++ flat_map mesher_line l.meshers

abbrev pub decreases-loop-rest : goal.decreases-loop-rest
decreases-loop-rest l = length l.rest
