use Rattle.model_heap.proofs.RefusedObjects.{new_lowest}
use Rattle.model_heap.proofs.refusal_laws.new_is_refused_by_lowest.Goals as goal

pub returns : goal.returns
returns c = new_lowest
