use Rattle.history_object.proofs.Swapping.{accesses_read, accesses_swap}
use Rattle.history_object.proofs.accesses.ObjectAccessesCalls.laws.Goals as goal

pub returns-clause-reading : goal.returns-clause-reading
returns-clause-reading c = accesses_read

pub returns-clause-swapping : goal.returns-clause-swapping
returns-clause-swapping c = accesses_swap
