use Rattle.model_heap.proofs.MadeObjects.{new_means}
use Rattle.model_heap.proofs.meaning_laws.new_changes_meaning.Goals as goal

pub returns : goal.returns
returns c = new_means
