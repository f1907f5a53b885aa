use Rattle.model_heap.proofs.WholeMeshes.{whole_by_steps}
use Rattle.model_heap.proofs.mesh_laws.whole_mesh_is_all_steps.Goals as goal

pub returns : goal.returns
returns c = whole_by_steps
