use Rattle.model_heap.proofs.Meanings.{means_same}
use Rattle.model_heap.proofs.meaning_laws.meaning_stays_with_bytes.Goals as goal

pub returns : goal.returns
returns c = means_same
