use Rattle.history_object.proofs.Placing.{judge_tells}
use Rattle.history_object.proofs.laws.judge_tells.Goals as goal

pub returns : goal.returns
returns g c = judge_tells g.O.Calls.effect
