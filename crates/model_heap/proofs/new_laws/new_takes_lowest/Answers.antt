use Rattle.model_heap.proofs.NewPlaces.{new_takes_open, new_takes_span}
use Rattle.model_heap.proofs.new_laws.new_takes_lowest.Goals as goal

pub returns-clause-group : goal.returns-clause-group
returns-clause-group c = new_takes_open

pub returns-clause-span : goal.returns-clause-span
returns-clause-span c = new_takes_span
