use Rattle.model_memory.proofs.SeatedCalls.{calls_commands}
use Rattle.model_memory.proofs.seat_laws.calls_have_commands.Goals as goal

pub returns : goal.returns
returns c = calls_commands
