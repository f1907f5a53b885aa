use Rattle.model_memory.proofs.CopiedRanges.{copy_takes}
use Rattle.model_memory.proofs.copy_laws.copy_takes_old_bytes.Goals as goal

pub returns : goal.returns
returns c = copy_takes
