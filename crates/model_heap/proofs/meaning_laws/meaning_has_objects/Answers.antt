use Rattle.model_heap.proofs.Meanings.{meaning_next, meaning_objects}
use Rattle.model_heap.proofs.meaning_laws.meaning_has_objects.Goals as goal

pub returns-clause-next : goal.returns-clause-next
returns-clause-next c = meaning_next

pub returns-clause-objects : goal.returns-clause-objects
returns-clause-objects c = meaning_objects
