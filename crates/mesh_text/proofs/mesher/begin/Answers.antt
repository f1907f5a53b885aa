use Rattle.model_heap.specs.Mesh.{any_mesh, begin, mesh_of_class}
use Rattle.model_jobs.specs.Jobs.{StepsLeft}
use Rattle.mesh_text.proofs.MesherCalls.{counted_call}
use Rattle.mesh_text.proofs.mesher.begin.Goals as goal

pub returns-in-One : goal.returns-in-One
returns-in-One c = rw c.in-One.is (counted_call StepsLeft (λ t. begin any_mesh t c.args.source c.args.destination) _ _ c.begin_alone.result (λ n m. m.table) c.begin_alone.ensures)

pub returns-in-Two : goal.returns-in-Two
returns-in-Two c = rw c.in-Two.is (counted_call StepsLeft (λ t. begin mesh_of_class t c.args.source c.args.destination) _ _ c.begin.result (λ n m. m.table) c.begin.ensures)
