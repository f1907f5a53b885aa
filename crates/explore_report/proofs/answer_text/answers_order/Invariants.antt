use Rattle.std.proofs.Common.{◌≡◌, drop, length}
use Rattle.std.specs.List.{fold}
use Rattle.explore_report.specs.CommandTexts.{answer_entries, answer_order}
use Rattle.explore_report.specs.Sorting.{AreNumbered, put_entry, sort_entries, unnumbered}
use Rattle.explore_report.proofs.CommandTexts.{plain_key}
use Rattle.explore_report.proofs.Sorting.{with_keys}
use Rattle.explore_report.proofs.answer_text.answers_order.Given as goal

abbrev pub invariant-loop-at : goal.invariant-loop-at
invariant-loop-at l = record {
  end : l.at-end ≡ length l.notes;
  numbered : AreNumbered l.sorted.entries;
  entries : fold (put_entry answer_order) (with_keys plain_key (unnumbered l.sorted.entries)) (answer_entries l.worker l.place l.at (drop l.at l.notes))
      ≡ sort_entries answer_order (answer_entries l.worker l.place 0 l.notes);
}
