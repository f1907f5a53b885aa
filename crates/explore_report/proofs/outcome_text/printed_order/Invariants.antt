use Rattle.std.proofs.Common.{◌≡◌, drop, length}
use Rattle.std.specs.List.{fold}
use Rattle.explore_report.specs.OutcomeTexts.{outcome_entries, outcome_order}
use Rattle.explore_report.specs.Sorting.{AreNumbered, put_entry, sort_entries, unnumbered}
use Rattle.explore_report.proofs.OutcomeTexts.{plain_key}
use Rattle.explore_report.proofs.Sorting.{with_keys}
use Rattle.explore_report.proofs.outcome_text.printed_order.Given as goal

abbrev pub invariant-loop-at : goal.invariant-loop-at
invariant-loop-at l = record {
  end : l.at-end ≡ length l.found;
  numbered : AreNumbered l.sorted.entries;
  entries : fold (put_entry outcome_order) (with_keys plain_key (unnumbered l.sorted.entries)) (outcome_entries l.reached.system.states l.at (drop l.at l.found))
      ≡ sort_entries outcome_order (outcome_entries l.reached.system.states 0 l.found);
}
