use Rattle.std.proofs.Common.{◌≡◌, ◌++◌, ◌-◌, length}
use Rattle.explore_interleavings.specs.ExploreStates.{script_of}
use Rattle.explore_report.specs.CommandTexts.{command_at, texts_from}
use Rattle.explore_report.proofs.answer_text.add_worker_commands.Given as goal

abbrev pub invariant-loop-place : goal.invariant-loop-place
invariant-loop-place l = record {
  end : l.place-end ≡ length (script_of l.state.setting l.worker);
  text : l.text.items ++ texts_from (command_at l.state.setting l.listing l.worker) l.place (length (script_of l.state.setting l.worker) - l.place)
      ≡ l.initial.text.items ++ texts_from (command_at l.state.setting l.listing l.worker) l.first (length (script_of l.state.setting l.worker) - l.first);
}
