use Rattle.model_heap.proofs.NewObjects.{new_sound, span_sound}
use Rattle.model_heap.proofs.table_laws.new_keeps_sound.Goals as goal

pub returns-clause-object : goal.returns-clause-object
returns-clause-object c = new_sound

pub returns-clause-span : goal.returns-clause-span
returns-clause-span c = span_sound
