use Rattle.std.proofs.Common.{◌≡◌, ◌++◌, None, length}
use Rattle.std.specs.BTreeSet.{contains}
use Rattle.explore_report.specs.PhaseRanges.{rank_of, rank_order, ranges_from}
use Rattle.explore_report.proofs.ranges.ranges_of.Given as goal

abbrev pub invariant-loop-left : goal.invariant-loop-left
invariant-loop-left l =
    l.ranges.items ++ ranges_from (λ phase. contains rank_order l.ranks (rank_of phase)) l.first l.left
    ≡ ranges_from (λ phase. contains rank_order l.ranks (rank_of phase)) None l.known

abbrev pub decreases-loop-left : goal.decreases-loop-left
decreases-loop-left l = length l.left
