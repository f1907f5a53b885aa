use Rattle.model_heap.proofs.StepCounts.{cancel_leaves}
use Rattle.model_heap.proofs.mesh_laws.cancel_answers_left.Goals as goal

pub returns-clause-left : goal.returns-clause-left
returns-clause-left c t class cancelled sound h = (cancel_leaves t class cancelled sound h).0

pub returns-clause-none : goal.returns-clause-none
returns-clause-none c t class cancelled sound h = (cancel_leaves t class cancelled sound h).1
