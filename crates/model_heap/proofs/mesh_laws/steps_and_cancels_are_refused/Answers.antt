use Rattle.model_heap.proofs.RefusedSteps.{cancel_late, cancel_none, cancel_refused, step_refused}
use Rattle.model_heap.proofs.mesh_laws.steps_and_cancels_are_refused.Goals as goal

pub returns-clause-step : goal.returns-clause-step
returns-clause-step c = step_refused

pub returns-clause-none : goal.returns-clause-none
returns-clause-none c = cancel_none

pub returns-clause-late : goal.returns-clause-late
returns-clause-late c = cancel_late

pub returns-clause-only : goal.returns-clause-only
returns-clause-only c = cancel_refused
