use Rattle.model_jobs.proofs.RefusedReplies.{answer_lowest}
use Rattle.model_jobs.proofs.refusal_laws.answers_are_refused_by_lowest.Goals as goal

pub returns : goal.returns
returns c = answer_lowest
