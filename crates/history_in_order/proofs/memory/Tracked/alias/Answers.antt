use Rattle.model_memory.specs.Memory.{with_root}
use Rattle.history_in_order.proofs.Commands.{alias_done, done_is_ok}
use Rattle.history_in_order.proofs.Trees.{pointed_stands}
use Rattle.history_in_order.proofs.memory.Tracked.alias.Goals as goal

pub returns-clause-done : goal.returns-clause-done
returns-clause-done c = λ r st. (
  with_root r.memory c.args.to c.in_ok-number.number,
  alias_done r.memory c.args.to c.args.from _ (c.in_ok-number.ensures.named r st),
  pointed_stands _ _ _ r _ _ _ _ c.args.to c.in_ok-number.number st c.ranges.to.fits c.in_ok-point.ensures,
)

pub returns-in_err-point-clause-memory : goal.returns-in_err-point-clause-memory
returns-in_err-point-clause-memory c = λ is r st. done_is_ok _ _ (alias_done r.memory c.args.to c.args.from _ (c.in_ok-number.ensures.named r st))
