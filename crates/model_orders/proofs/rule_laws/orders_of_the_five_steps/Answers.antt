use Rattle.std.proofs.Common.{refl}
use Rattle.model_orders.proofs.rule_laws.orders_of_the_five_steps.Goals as goal

pub returns : goal.returns
returns c = (refl, refl)
