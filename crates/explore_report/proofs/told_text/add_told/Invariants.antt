use Rattle.std.proofs.Common.{◌≡◌, ◌++◌, drop, length}
use Rattle.explore_report.specs.ToldTexts.{told_text, told_text_from}
use Rattle.explore_report.proofs.told_text.add_told.Given as goal

abbrev pub invariant-loop-worker : goal.invariant-loop-worker
invariant-loop-worker l = record {
  end : l.worker-end ≡ length l.told;
  text : l.text.items ++ told_text_from l.worker (drop l.worker l.told) ≡ l.initial.text.items ++ told_text l.told;
}
