use Rattle.model_heap.proofs.TableChanges.{sweep_sound}
use Rattle.model_heap.proofs.table_laws.sweep_keeps_sound.Goals as goal

pub returns : goal.returns
returns c = sweep_sound
