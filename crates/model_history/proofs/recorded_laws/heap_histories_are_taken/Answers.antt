use Rattle.model_history.proofs.Widened.{taken}
use Rattle.model_history.proofs.recorded_laws.heap_histories_are_taken.Goals as goal

pub returns : goal.returns
returns c entries end all legal = taken entries end all legal
