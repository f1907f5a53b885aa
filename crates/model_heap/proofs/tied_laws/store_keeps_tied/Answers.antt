use Rattle.model_heap.proofs.TiedMemories.{root_tied, stored_tied}
use Rattle.model_heap.proofs.tied_laws.store_keeps_tied.Goals as goal

pub returns-clause-bytes : goal.returns-clause-bytes
returns-clause-bytes c = stored_tied

pub returns-clause-root : goal.returns-clause-root
returns-clause-root c = root_tied
