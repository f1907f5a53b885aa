use Rattle.mesh_steps.specs.HeapMeshes.{IsOnItsWay}
use Rattle.mesh_steps.proofs.heap.Heap.finish.Given as goal

abbrev pub invariant-steps : goal.invariant-steps
invariant-steps l = IsOnItsWay l.initial.self l.self l.class l.steps l._made
