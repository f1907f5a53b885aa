use Rattle.history_object.proofs.SomeUnexplained.{left_if_explained}
use Rattle.history_object.proofs.timed_laws.none_explains_some.Goals as goal

pub returns : goal.returns
returns g c = λ start calls judge is none taken are order explains. none (left_if_explained g.O.Calls.effect start calls judge is taken are order explains)
