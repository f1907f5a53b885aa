use Rattle.mesh_shared.proofs.ToldStops.{nothing_is_told_of_none, told_is_first, told_is_there}
use Rattle.mesh_shared.proofs.run_laws.first_stop_is_told.Goals as goal

pub returns-clause-there : goal.returns-clause-there
returns-clause-there c = told_is_there

pub returns-clause-first : goal.returns-clause-first
returns-clause-first c = told_is_first

pub returns-clause-nothing : goal.returns-clause-nothing
returns-clause-nothing c = nothing_is_told_of_none
