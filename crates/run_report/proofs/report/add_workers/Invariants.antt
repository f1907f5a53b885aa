use Rattle.std.proofs.Common.{◌≡◌, ◌+◌, ◌++◌, length}
use Rattle.run_report.specs.Reports.{worker_lines}
use Rattle.run_report.proofs.report.add_workers.Given as goal

abbrev pub invariant-loop-rest : goal.invariant-loop-rest
invariant-loop-rest l =
    (l.text.items ++ worker_lines l.history l.worker l.rest ≡ l.initial.text.items ++ worker_lines l.history 0 l.workers)
    × (l.worker + length l.rest ≡ length l.workers)

abbrev pub decreases-loop-rest : goal.decreases-loop-rest
decreases-loop-rest l = length l.rest
