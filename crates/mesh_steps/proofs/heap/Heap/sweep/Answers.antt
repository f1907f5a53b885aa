use Rattle.mesh_steps.proofs.MeshHeaps.{swept_leaves}
use Rattle.mesh_steps.proofs.heap.Heap.sweep.Goals as goal

pub invariant_of-self : goal.invariant_of-self
invariant_of-self c = (swept_leaves c.self.inside.pages c.sweep.new.self c.self.inside.next_serial c.self.invariant c.args.group c.sweep.result c.sound.ensures.index c.sweep.ensures.swept c.sweep.ensures.refused).heap

pub returns : goal.returns
returns c = rw (← c.self.view_is) (swept_leaves c.self.inside.pages c.sweep.new.self c.self.inside.next_serial c.self.invariant c.args.group c.sweep.result c.sound.ensures.index c.sweep.ensures.swept c.sweep.ensures.refused).answered
