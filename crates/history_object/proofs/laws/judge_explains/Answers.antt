use Rattle.history_object.proofs.Placing.{judge_explains}
use Rattle.history_object.proofs.laws.judge_explains.Goals as goal

pub returns : goal.returns
returns g c = judge_explains g.O.Calls.effect
