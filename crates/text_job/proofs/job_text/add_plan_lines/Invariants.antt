use Rattle.std.proofs.Common.{◌≡◌, ◌++◌, take}
use Rattle.std.specs.List.{flat_map}
use Rattle.text_job.specs.JobTexts.{line_line}
use Rattle.text_job.proofs.job_text.add_plan_lines.Given as goal
use Rattle.text_job.specs.Plan.{line_of}

abbrev pub invariant-loop-line : goal.invariant-loop-line
invariant-loop-line l = l.text.items ≡ l.initial.text.items ++ flat_map (λ line. line_line (line_of line)) (take l.line-index l.lines)
