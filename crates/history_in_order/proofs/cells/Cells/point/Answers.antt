use Rattle.std.proofs.Common.{subst, ◌∙◌}
use Rattle.history_in_order.specs.Cells.{CellTable, IsPointed}
use Rattle.history_in_order.proofs.cells.Cells.point.Goals as goal

pub invariant_of-self-2 : goal.invariant_of-self-2
invariant_of-self-2 c = λ q is.
    let was = (c.in_ok-remove.ensures.removed q).0 is in c.in_ok-set.ensures.set.1 q was.1 ∙ c.self.invariant q was.0

pub returns : goal.returns
returns c =
    let new : CellTable = record { numbers = c.set.new.map.entries; freed = c.remove.new.cells } in
    subst (λ (old : CellTable). IsPointed old new c.args.cell c.args.number) c.self.view_is
    (record { here = c.in_ok-set.ensures.set.0; others = c.in_ok-set.ensures.set.1; freed = c.in_ok-remove.ensures.removed })
