use Rattle.std.proofs.Common.{map}
use Rattle.history_reading.specs.CallWords.{plain_call}
use Rattle.history_overlaps.proofs.OwnOrder.{IsFollowedTo}
use Rattle.history_overlaps.proofs.own_orders.order_of.Given as goal

abbrev pub invariant-loop-number : goal.invariant-loop-number
invariant-loop-number l = IsFollowedTo (map plain_call l.calls) l.made l.number-index l.judge
