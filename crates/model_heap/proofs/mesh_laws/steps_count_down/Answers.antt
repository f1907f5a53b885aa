use Rattle.model_heap.proofs.StepCounts.{count_down, others_keep, step_leaves}
use Rattle.model_heap.proofs.mesh_laws.steps_count_down.Goals as goal

pub returns-clause-one : goal.returns-clause-one
returns-clause-one c t class stepped sound h = ((step_leaves t class stepped sound h).0, (step_leaves t class stepped sound h).1)

pub returns-clause-last : goal.returns-clause-last
returns-clause-last c t class stepped sound h = (step_leaves t class stepped sound h).2

pub returns-clause-others : goal.returns-clause-others
returns-clause-others c = others_keep

pub returns-clause-many : goal.returns-clause-many
returns-clause-many c = count_down
