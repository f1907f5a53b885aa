use Rattle.model_heap.proofs.LowestSteps.{sweep_lowest}
use Rattle.model_heap.proofs.refusal_laws.sweeps_are_refused_by_lowest.Goals as goal

pub returns : goal.returns
returns c = sweep_lowest
