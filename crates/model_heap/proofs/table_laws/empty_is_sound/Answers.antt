use Rattle.model_heap.proofs.TableChanges.{empty_sound}
use Rattle.model_heap.proofs.table_laws.empty_is_sound.Goals as goal

pub returns : goal.returns
returns c = empty_sound
