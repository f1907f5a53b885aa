use Rattle.model_memory.proofs.Replies.{one_reply}
use Rattle.model_memory.proofs.step_laws.replies_are_determined.Goals as goal

pub returns-clause-others : goal.returns-clause-others
returns-clause-others c = one_reply
