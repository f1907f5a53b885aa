use Rattle.model_heap.proofs.TiedNewObjects.{new_tied}
use Rattle.model_heap.proofs.tied_laws.new_keeps_tied.Goals as goal

pub returns : goal.returns
returns c = new_tied
