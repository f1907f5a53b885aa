use Rattle.model_heap.proofs.TiedTables.{cancel_tied}
use Rattle.model_heap.proofs.tied_laws.cancel_keeps_tied.Goals as goal

pub returns : goal.returns
returns c = cancel_tied
