use Rattle.std.proofs.Common.{map}
use Rattle.history_reading.specs.CallWords.{plain_call}
use Rattle.history_overlaps.proofs.PointsOfHistories.{ArePlacedSoFar}
use Rattle.history_overlaps.proofs.points.points_of.Given as goal

abbrev pub invariant-loop-call : goal.invariant-loop-call
invariant-loop-call l = ArePlacedSoFar (map plain_call l.calls) l.points.items l.call-index
