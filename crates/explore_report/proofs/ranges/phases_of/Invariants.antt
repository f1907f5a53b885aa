use Rattle.std.proofs.Common.{◌≡◌, drop, length}
use Rattle.std.specs.List.{fold}
use Rattle.explore_report.specs.PhaseRanges.{phase_entries, rank_order}
use Rattle.explore_report.specs.Sorting.{AreNumbered, put_entry, sort_entries, unnumbered}
use Rattle.explore_report.proofs.ranges.phases_of.Given as goal

abbrev pub invariant-loop-place : goal.invariant-loop-place
invariant-loop-place l = record {
  end : l.place-end ≡ length l.phases;
  numbered : AreNumbered l.sorted.entries;
  entries : fold (put_entry rank_order) (unnumbered l.sorted.entries) (phase_entries l.mesher (drop l.place l.phases))
      ≡ sort_entries rank_order (phase_entries l.mesher l.phases);
}
