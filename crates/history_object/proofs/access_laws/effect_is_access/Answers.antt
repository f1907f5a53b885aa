use Rattle.history_object.proofs.Accessed.{effect_is_access}
use Rattle.history_object.proofs.access_laws.effect_is_access.Goals as goal

pub returns : goal.returns
returns c = effect_is_access
