use Rattle.std.proofs.Common.{◌≡◌, ◌+◌, min, take}
use Rattle.std.specs.List.{sum_by}
use Rattle.explore_report.specs.JobLines.{last_line, section_lines}
use Rattle.explore_report.proofs.job_lines.command_line.Given as goal

abbrev pub invariant-loop-before : goal.invariant-loop-before
invariant-loop-before l = l.line ≡ min last_line (5 + sum_by section_lines (take l.before l.job.scripts))
