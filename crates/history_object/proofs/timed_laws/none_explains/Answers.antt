use Rattle.history_object.proofs.Unexplained.{some_is_left}
use Rattle.history_object.proofs.timed_laws.none_explains.Goals as goal

pub returns : goal.returns
returns g c = λ start calls more judge is none later order explains. none (some_is_left g.O.Calls.effect start calls more judge is later order explains)
