use Rattle.model_heap.specs.Mesh.{any_mesh, mesh_whole, mesh_of_class}
use Rattle.model_jobs.specs.Jobs.{PagesMeshed}
use Rattle.mesh_text.proofs.MesherCalls.{counted_call}
use Rattle.mesh_text.proofs.mesher.whole.Goals as goal

pub returns-in-One : goal.returns-in-One
returns-in-One c = rw c.in-One.is (counted_call PagesMeshed (λ t. mesh_whole any_mesh t c.args.source c.args.destination) _ _ c.whole_alone.result (λ n m. m.table) c.whole_alone.ensures)

pub returns-in-Two : goal.returns-in-Two
returns-in-Two c = rw c.in-Two.is (counted_call PagesMeshed (λ t. mesh_whole mesh_of_class t c.args.source c.args.destination) _ _ c.mesh_whole.result (λ n m. m.table) c.mesh_whole.ensures)
