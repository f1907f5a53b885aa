use Rattle.std.proofs.Common.{map, take}
use Rattle.std.specs.BTreeMap.{get}
use Rattle.std.specs.Ordering.{nat_cmp}
use Rattle.history_reading.specs.CallWords.{plain_call}
use Rattle.history_overlaps.specs.OwnOrders.{AreGrouped}
use Rattle.history_overlaps.proofs.accesses.accesses_by_cell.Given as goal

abbrev pub invariant-loop-number : goal.invariant-loop-number
invariant-loop-number l = AreGrouped (map plain_call (take l.number l.calls)) (get nat_cmp l.accesses)
