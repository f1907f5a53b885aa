use Rattle.model_memory.proofs.RefusedCommands.{plain_lowest}
use Rattle.model_memory.proofs.RefusedReplies.{step_lowest}
use Rattle.model_memory.proofs.refusal_laws.commands_are_refused_by_lowest.Goals as goal

pub returns-clause-plain : goal.returns-clause-plain
returns-clause-plain c = plain_lowest

pub returns-clause-step : goal.returns-clause-step
returns-clause-step c = step_lowest
