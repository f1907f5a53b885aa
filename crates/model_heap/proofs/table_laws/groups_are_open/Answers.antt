use Rattle.model_heap.proofs.OpenGroups.{found_open, open_tests}
use Rattle.model_heap.proofs.table_laws.groups_are_open.Goals as goal

pub returns-clause-tests : goal.returns-clause-tests
returns-clause-tests c = open_tests

pub returns-clause-found : goal.returns-clause-found
returns-clause-found c = found_open
