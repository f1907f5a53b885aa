use Rattle.model_heap.proofs.RefusedMeshes.{begin_lowest, whole_lowest}
use Rattle.model_heap.proofs.refusal_laws.meshes_are_refused_by_lowest.Goals as goal

pub returns-clause-begin : goal.returns-clause-begin
returns-clause-begin c = begin_lowest

pub returns-clause-whole : goal.returns-clause-whole
returns-clause-whole c = whole_lowest
