use Rattle.model_memory.proofs.Addresses.{live_keeps, runs_keep}
use Rattle.model_memory.proofs.address_laws.live_objects_keep_their_addresses.Goals as goal

pub returns-clause-step : goal.returns-clause-step
returns-clause-step c = live_keeps

pub returns-clause-runs : goal.returns-clause-runs
returns-clause-runs c = runs_keep
