use Rattle.model_orders.proofs.Faults.{allowed_has_none, forbidden_has_one}
use Rattle.model_orders.proofs.rule_laws.rule_is_exact.Goals as goal

pub returns : goal.returns
returns c steps = (allowed_has_none steps, forbidden_has_one steps)
