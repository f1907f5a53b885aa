use Rattle.mesh_steps.proofs.MeshHeaps.{begun_leaves}
use Rattle.mesh_steps.proofs.heap.Heap.start.Goals as goal

pub invariant_of-self : goal.invariant_of-self
invariant_of-self c = (begun_leaves c.self.inside.pages c.begin.new.self c.self.inside.next_serial c.self.invariant c.args.busy c.args.source c.args.destination c.begin.result c.begin.ensures.begun c.begin.ensures.refused).heap

pub returns : goal.returns
returns c = rw (← c.self.view_is) (begun_leaves c.self.inside.pages c.begin.new.self c.self.inside.next_serial c.self.invariant c.args.busy c.args.source c.args.destination c.begin.result c.begin.ensures.begun c.begin.ensures.refused).answered
