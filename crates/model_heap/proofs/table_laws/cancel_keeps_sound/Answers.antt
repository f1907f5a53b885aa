use Rattle.model_heap.proofs.TableChanges.{cancel_sound}
use Rattle.model_heap.proofs.table_laws.cancel_keeps_sound.Goals as goal

pub returns : goal.returns
returns c = cancel_sound
