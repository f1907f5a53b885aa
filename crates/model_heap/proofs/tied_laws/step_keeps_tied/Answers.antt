use Rattle.model_heap.proofs.TiedTables.{step_tied}
use Rattle.model_heap.proofs.tied_laws.step_keeps_tied.Goals as goal

pub returns : goal.returns
returns c = step_tied
