use Rattle.std.proofs.Common.{◌≡◌, ◌≤◌, ◌+◌, length}
use Rattle.model_memory.specs.Seats.{calls_of}
use Rattle.run_report.proofs.report.calls_of.Given as goal

-- the calls so far and those of the rest are all calls, and no more calls than entries were counted
abbrev pub invariant-loop-rest : goal.invariant-loop-rest
invariant-loop-rest l =
    (l.calls + length (calls_of l.worker l.rest) ≡ length (calls_of l.worker l.history)) × (l.calls + length l.rest ≤ length l.history)

abbrev pub decreases-loop-rest : goal.decreases-loop-rest
decreases-loop-rest l = length l.rest
