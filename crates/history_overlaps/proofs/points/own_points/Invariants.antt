use Rattle.std.proofs.Common.{map, take}
use Rattle.history_reading.specs.CallWords.{plain_call}
use Rattle.history_overlaps.specs.Points.{AreOwnPoints}
use Rattle.history_overlaps.proofs.points.own_points.Given as goal

abbrev pub invariant-loop-call : goal.invariant-loop-call
invariant-loop-call l = AreOwnPoints (map plain_call (take l.call-index l.calls)) l.points.items
