use Rattle.std.proofs.Common.{◌≡◌, ◌++◌, length}
use Rattle.explore_report.specs.EndTexts.{texts_below, worker_text}
use Rattle.explore_report.proofs.end_text.add_workers.Given as goal

abbrev pub invariant-loop-worker : goal.invariant-loop-worker
invariant-loop-worker l = record {
  end : l.worker-end ≡ length l.state.setting.job.scripts;
  text : l.text.items ≡ l.initial.text.items ++ texts_below (worker_text l.state.setting l.state.state) l.worker;
}
