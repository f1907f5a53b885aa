use Rattle.model_otherwise.proofs.TimedJudged.{attempted_judged}
use Rattle.model_otherwise.proofs.laws.timed_answers_are_judged.Goals as goal

pub returns-clause-right : goal.returns-clause-right
returns-clause-right c t n pages m heap command = (attempted_judged t n pages m heap command).right

pub returns-clause-begun : goal.returns-clause-begun
returns-clause-begun c t n pages m heap command = (attempted_judged t n pages m heap command).begins

pub returns-clause-wrong : goal.returns-clause-wrong
returns-clause-wrong c t k pages m n heap command = (attempted_judged t k pages m heap command).wrong n
