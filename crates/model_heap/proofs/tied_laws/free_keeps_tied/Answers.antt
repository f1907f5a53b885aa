use Rattle.model_heap.proofs.TiedMemories.{free_tied}
use Rattle.model_heap.proofs.tied_laws.free_keeps_tied.Goals as goal

pub returns : goal.returns
returns c = free_tied
