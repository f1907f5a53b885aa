use Rattle.model_intervals.proofs.ByObject.{explained}
use Rattle.model_intervals.proofs.OneOrder.{linearizable}
use Rattle.model_intervals.proofs.locality_laws.histories_are_local.Goals as goal

pub returns : goal.returns
returns c calls history = (explained calls history, linearizable calls history)
