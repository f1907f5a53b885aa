use Rattle.model_heap.proofs.TableChanges.{step_sound}
use Rattle.model_heap.proofs.table_laws.step_keeps_sound.Goals as goal

pub returns : goal.returns
returns c = step_sound
