use Rattle.model_heap.proofs.CopiedBytes.{copied_same, others_stay}
use Rattle.model_heap.proofs.effect_laws.copied_bytes_are_the_same.Goals as goal

pub returns-clause-copied : goal.returns-clause-copied
returns-clause-copied c = copied_same

pub returns-clause-others : goal.returns-clause-others
returns-clause-others c = others_stay
