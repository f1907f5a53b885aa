use Rattle.history_object.proofs.SomeExplained.{some_explained}
use Rattle.history_object.proofs.timed_laws.some_are_explained.Goals as goal

pub returns : goal.returns
returns g c = some_explained g.O.Calls.effect
