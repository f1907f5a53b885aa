use Rattle.std.proofs.Common.{◌≡◌, length}
use Rattle.explore_report.specs.Ends.{any_below}
use Rattle.explore_report.specs.OutcomeTexts.{has_command}
use Rattle.explore_report.proofs.outcome_text.has_commands.Given as goal

abbrev pub invariant-loop-worker : goal.invariant-loop-worker
invariant-loop-worker l = record {
  end : l.worker-end ≡ length l.state.setting.job.scripts;
  left : l.is_left ≡ any_below (has_command l.state.setting l.state.state) l.worker;
}
