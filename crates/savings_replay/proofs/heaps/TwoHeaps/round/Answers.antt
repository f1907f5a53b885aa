use Rattle.std.proofs.lemmas.Result.{on_ok_weaker}
use Rattle.savings_replay.proofs.Pairs.{round_is}
use Rattle.savings_replay.specs.HeapChanges.{heaps_of}
use Rattle.savings_replay.proofs.heaps.TwoHeaps.round.Goals as goal

pub returns-clause-value : goal.returns-clause-value
returns-clause-value c =
    on_ok_weaker c.mesh_classes.result
    (λ e. round_is c.args.probe (heaps_of c.args.self.now) _ _ _ c.sweep_empty.ensures.table c.sweep_empty-2.ensures.table e) c.mesh_classes.ensures.value
