use Rattle.history_object.proofs.Explained.{explained}
use Rattle.history_object.proofs.timed_laws.all_are_explained.Goals as goal

pub returns : goal.returns
returns g c = explained g.O.Calls.effect
