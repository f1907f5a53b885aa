use Rattle.std.proofs.Common.{refl}
use Rattle.model_orders.proofs.FirstPlaces.{first_is_first}
use Rattle.model_orders.proofs.FirstWrong.{wrong_exactly}
use Rattle.model_orders.proofs.rule_laws.first_wrong_is_exact.Goals as goal

pub returns-clause-exact : goal.returns-clause-exact
returns-clause-exact c = wrong_exactly

pub returns-clause-first : goal.returns-clause-first
returns-clause-first c = first_is_first

pub returns-clause-reasons : goal.returns-clause-reasons
returns-clause-reasons c = (refl, refl, refl, refl, refl, refl, refl, refl, refl, refl, refl)
