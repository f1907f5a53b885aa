use Rattle.model_heap.proofs.FreedObjects.{free_means}
use Rattle.model_heap.proofs.meaning_laws.free_changes_meaning.Goals as goal

pub returns : goal.returns
returns c = free_means
