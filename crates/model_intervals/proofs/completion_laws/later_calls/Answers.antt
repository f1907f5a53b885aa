use Rattle.model_intervals.proofs.LaterCalls.{first_wrong_stays, later_calls_are_free}
use Rattle.model_intervals.proofs.completion_laws.later_calls.Goals as goal

pub returns-clause-completed : goal.returns-clause-completed
returns-clause-completed c = later_calls_are_free

pub returns-clause-first_wrong : goal.returns-clause-first_wrong
returns-clause-first_wrong c = first_wrong_stays
