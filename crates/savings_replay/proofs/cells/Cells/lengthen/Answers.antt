use Rattle.savings_replay.proofs.CellLemmas.{held_by-append}
use Rattle.savings_replay.proofs.cells.Cells.lengthen.Goals as goal

pub loop-preserved : goal.loop-preserved
loop-preserved c k = rw (c.in_ok-push.ensures.items, held_by-append) (c.loop.invariant k)

pub returns-in_ok-push : goal.returns-in_ok-push
returns-in_ok-push c k = rw (c.in_ok-push.ensures.items, held_by-append, ← c.self.view_is) (c.loop.invariant k)
