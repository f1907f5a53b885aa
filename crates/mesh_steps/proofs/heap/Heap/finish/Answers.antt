use Rattle.mesh_steps.proofs.MeshHeaps.{gone_on}
use Rattle.mesh_steps.proofs.heap.Heap.finish.Goals as goal

pub steps-preserved : goal.steps-preserved
steps-preserved c =
    gone_on _ _ _ _ _ _ _ c.requires c.steps-test.true c.steps.invariant c.step-done.ensures
