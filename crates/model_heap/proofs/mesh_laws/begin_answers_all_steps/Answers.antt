use Rattle.model_heap.proofs.StepCounts.{begin_answers, begin_leaves}
use Rattle.model_heap.proofs.mesh_laws.begin_answers_all_steps.Goals as goal

pub returns-clause-answered : goal.returns-clause-answered
returns-clause-answered c = begin_answers

pub returns-clause-to_come : goal.returns-clause-to_come
returns-clause-to_come c = begin_leaves
