use Rattle.model_heap.proofs.TableChanges.{begin_sound, whole_sound}
use Rattle.model_heap.proofs.table_laws.begin_keeps_sound.Goals as goal

pub returns-clause-begun : goal.returns-clause-begun
returns-clause-begun c = begin_sound

pub returns-clause-whole : goal.returns-clause-whole
returns-clause-whole c = whole_sound
