use Rattle.model_heap.proofs.Holders.{objects_apart, one_holder, no_holder}
use Rattle.model_heap.proofs.meaning_laws.live_objects_are_apart.Goals as goal

pub returns-clause-apart : goal.returns-clause-apart
returns-clause-apart c = objects_apart

pub returns-clause-holder : goal.returns-clause-holder
returns-clause-holder c = one_holder

pub returns-clause-none : goal.returns-clause-none
returns-clause-none c = no_holder
