use Rattle.model_heap.proofs.NewLengths.{new_has_length}
use Rattle.model_heap.proofs.table_laws.new_has_length.Goals as goal

pub returns : goal.returns
returns c = new_has_length
