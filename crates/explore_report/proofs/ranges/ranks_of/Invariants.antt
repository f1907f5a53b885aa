use Rattle.std.proofs.Common.{◌≡◌, ℕ, length, take}
use Rattle.std.specs.BTreeSet.{contains}
use Rattle.explore_report.specs.PhaseRanges.{has_rank, rank_order}
use Rattle.explore_report.proofs.ranges.ranks_of.Given as goal

abbrev pub invariant-loop-place : goal.invariant-loop-place
invariant-loop-place l = record {
  end : l.place-end ≡ length l.phases;
  ranks : (rank : ℕ × ℕ) → contains rank_order l.ranks rank ≡ has_rank l.mesher (take l.place l.phases) rank;
}
