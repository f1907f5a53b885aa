use Rattle.std.proofs.Common.{◌≡◌, ◌++◌, length, slice_index}
use Rattle.explore_report.specs.CommandTexts.{worker_commands}
use Rattle.explore_report.specs.EndTexts.{texts_below}
use Rattle.explore_report.proofs.answer_text.add_commands.Given as goal

abbrev pub invariant-loop-worker : goal.invariant-loop-worker
invariant-loop-worker l = record {
  end : l.worker-end ≡ length l.state.setting.job.scripts;
  text : l.text.items
      ≡ l.initial.text.items
      ++ texts_below (λ worker. worker_commands l.state.setting l.listing worker (slice_index l.state.state.places worker)) l.worker;
}
