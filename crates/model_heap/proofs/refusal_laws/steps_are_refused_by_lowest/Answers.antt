use Rattle.model_heap.proofs.LowestSteps.{cancel_lowest, step_lowest}
use Rattle.model_heap.proofs.refusal_laws.steps_are_refused_by_lowest.Goals as goal

pub returns-clause-step : goal.returns-clause-step
returns-clause-step c = step_lowest

pub returns-clause-cancel : goal.returns-clause-cancel
returns-clause-cancel c = cancel_lowest
