use Rattle.model_heap.proofs.Meanings.{store_means}
use Rattle.model_heap.proofs.meaning_laws.store_changes_meaning.Goals as goal

pub returns : goal.returns
returns c = store_means
