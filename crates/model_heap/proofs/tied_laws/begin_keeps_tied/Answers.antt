use Rattle.model_heap.proofs.TiedTables.{begin_tied, whole_tied}
use Rattle.model_heap.proofs.tied_laws.begin_keeps_tied.Goals as goal

pub returns-clause-begun : goal.returns-clause-begun
returns-clause-begun c = begin_tied

pub returns-clause-whole : goal.returns-clause-whole
returns-clause-whole c = whole_tied
