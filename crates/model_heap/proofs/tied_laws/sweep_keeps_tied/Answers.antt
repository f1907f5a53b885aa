use Rattle.model_heap.proofs.TiedTables.{sweep_tied}
use Rattle.model_heap.proofs.tied_laws.sweep_keeps_tied.Goals as goal

pub returns : goal.returns
returns c = sweep_tied
