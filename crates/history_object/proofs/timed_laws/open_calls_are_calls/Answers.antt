use Rattle.history_object.proofs.End.{open_is_call}
use Rattle.history_object.proofs.timed_laws.open_calls_are_calls.Goals as goal

pub returns : goal.returns
returns g c = open_is_call g.O.Calls.effect
