use Rattle.model_intervals.proofs.AllEnded.{all_ended_are_linearizable, one_is_first_wrong}
use Rattle.model_intervals.proofs.InTime.{all_in_time_are_linearizable, explained_are_completed}
use Rattle.model_intervals.proofs.SomeWrong.{unexplained_have_first_wrong}
use Rattle.model_intervals.proofs.completion_laws.completions.Goals as goal

pub returns-clause-all_ended : goal.returns-clause-all_ended
returns-clause-all_ended c = all_ended_are_linearizable

pub returns-clause-one : goal.returns-clause-one
returns-clause-one c = one_is_first_wrong

pub returns-clause-some : goal.returns-clause-some
returns-clause-some c = unexplained_have_first_wrong

pub returns-clause-in_time : goal.returns-clause-in_time
returns-clause-in_time c = all_in_time_are_linearizable

pub returns-clause-explained : goal.returns-clause-explained
returns-clause-explained c = explained_are_completed
