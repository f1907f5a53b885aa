use Rattle.model_jobs.proofs.RefusedReplies.{held_back}
use Rattle.model_jobs.proofs.refusal_laws.unrefused_commands_are_held_back.Goals as goal

pub returns : goal.returns
returns c = held_back
