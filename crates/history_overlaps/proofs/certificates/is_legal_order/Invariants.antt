use Rattle.std.proofs.Common.{take}
use Rattle.history_overlaps.specs.Orders.{calls_in_order}
use Rattle.history_overlaps.proofs.SoFar.{IsSoFar}
use Rattle.history_overlaps.proofs.certificates.is_legal_order.Given as goal

abbrev pub invariant-loop-number : goal.invariant-loop-number
invariant-loop-number l = IsSoFar l.memory l.begun l.number-index (calls_in_order l.calls (take l.number-index l.order))
