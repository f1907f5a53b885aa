use Rattle.std.proofs.Common.{ap}
use Rattle.history_in_order.specs.Objects.{object_in, serial_in}
use Rattle.history_in_order.proofs.Trees.{none_in, nothing_stands}
use Rattle.history_in_order.proofs.memory.Tracked.new.Goals as goal

pub returns-clause-stands : goal.returns-clause-stands
returns-clause-stands c =
    nothing_stands _ _ _ _ _ (λ n. ap object_in (none_in c.new.result n c.new.ensures.empty)) (λ n. ap serial_in (none_in c.new.result n c.new.ensures.empty))
    (λ a. none_in c.new-2.result a c.new-2.ensures.empty) c.new-3.ensures c.new-4.ensures
