use Rattle.std.proofs.Common.{take}
use Rattle.history_overlaps.specs.Followed.{IsFirstOf}
use Rattle.history_overlaps.proofs.own_orders.first_to_end.Given as goal

abbrev pub invariant-loop-number : goal.invariant-loop-number
invariant-loop-number l = IsFirstOf l.calls (take l.number-index l.numbers) l.first
