use Rattle.model_heap.proofs.TableChanges.{free_sound}
use Rattle.model_heap.proofs.table_laws.free_keeps_sound.Goals as goal

pub returns : goal.returns
returns c = free_sound
