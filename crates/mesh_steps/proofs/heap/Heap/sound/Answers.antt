use Rattle.std.proofs.Common.{subst}
use Rattle.mesh_steps.specs.Heap.{Heap, IsHeap}
use Rattle.mesh_steps.proofs.heap.Heap.sound.Goals as goal

pub returns : goal.returns
returns c = subst (λ (h : Heap). IsHeap h) c.self.view_is c.self.invariant
