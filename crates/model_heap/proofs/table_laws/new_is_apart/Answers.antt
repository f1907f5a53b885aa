use Rattle.model_heap.proofs.NewApart.{new_apart, new_vacant}
use Rattle.model_heap.proofs.table_laws.new_is_apart.Goals as goal

pub returns-clause-slots : goal.returns-clause-slots
returns-clause-slots c = new_apart

pub returns-clause-vacant : goal.returns-clause-vacant
returns-clause-vacant c = new_vacant
