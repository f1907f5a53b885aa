use Rattle.std.proofs.Common.{◌≡◌, ◌+◌, drop, map}
use Rattle.otherwise_report.specs.PlanStarts.{plan_setting, played, played_from, state_of_start}
use Rattle.text_job.specs.Plan.{line_of}
use Rattle.otherwise_report.proofs.start.started.Given as goal

abbrev pub invariant-loop-line : goal.invariant-loop-line
invariant-loop-line l =
    played_from (plan_setting l.job) (state_of_start l.start) (l.number + 1) (map line_of (drop l.line-index l.line-items)) ≡ played l.job
