use Rattle.model_memory.proofs.Addresses.{freed_stays, serials_up}
use Rattle.model_memory.proofs.address_laws.freed_objects_stay_freed.Goals as goal

pub returns-clause-serials : goal.returns-clause-serials
returns-clause-serials c = serials_up

pub returns-clause-step : goal.returns-clause-step
returns-clause-step c = freed_stays
