use Rattle.std.proofs.Common.{◌≡◌, ◌≤◌, ◌+◌, ◌++◌, length, map}
use Rattle.explore_report.specs.OutcomeTexts.{lines_text}
use Rattle.text_job.specs.Plan.{line_of}
use Rattle.explore_report.proofs.plan_text.add_lines.Given as goal

abbrev pub invariant-loop-left : goal.invariant-loop-left
invariant-loop-left l = record {
  few : l.times + length l.left ≤ length l.lines;
  text : l.text.items ++ lines_text l.times (map line_of l.left) ≡ l.initial.text.items ++ lines_text 0 (map line_of l.lines);
}

abbrev pub decreases-loop-left : goal.decreases-loop-left
decreases-loop-left l = length l.left
