use Rattle.model_otherwise.proofs.AnswersJudged.{answered_plain, wrong_apart}
use Rattle.model_otherwise.proofs.laws.answers_are_judged.Goals as goal

pub returns-clause-right : goal.returns-clause-right
returns-clause-right c = answered_plain

pub returns-clause-wrong : goal.returns-clause-wrong
returns-clause-wrong c = wrong_apart
