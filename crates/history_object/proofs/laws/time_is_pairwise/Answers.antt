use Rattle.history_object.proofs.Pairwise.{time_is_pairwise}
use Rattle.history_object.proofs.laws.time_is_pairwise.Goals as goal

pub returns : goal.returns
returns c = time_is_pairwise
