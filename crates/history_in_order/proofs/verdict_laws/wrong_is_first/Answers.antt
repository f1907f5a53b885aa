use Rattle.history_in_order.proofs.Laws.{wrong_is_first}
use Rattle.history_in_order.proofs.verdict_laws.wrong_is_first.Goals as goal

pub returns : goal.returns
returns c = wrong_is_first
