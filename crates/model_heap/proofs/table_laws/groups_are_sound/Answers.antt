use Rattle.model_heap.proofs.GroupPages.{found_sound, page_of_one, page_once}
use Rattle.model_heap.proofs.table_laws.groups_are_sound.Goals as goal

pub returns-clause-found : goal.returns-clause-found
returns-clause-found c = found_sound

pub returns-clause-once : goal.returns-clause-once
returns-clause-once c = page_once

pub returns-clause-own : goal.returns-clause-own
returns-clause-own c = page_of_one
