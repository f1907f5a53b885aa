use Rattle.history_in_order.proofs.Laws.{verdicts_are_one}
use Rattle.history_in_order.proofs.verdict_laws.verdicts_are_one.Goals as goal

pub returns : goal.returns
returns c = verdicts_are_one
