use Rattle.model_memory.specs.Memory.{empty_memory}
use Rattle.model_memory.proofs.Addresses.{freed_is_gone, made_keeps_address, run_apart}
use Rattle.model_memory.proofs.address_laws.histories_keep_addresses.Goals as goal

pub returns-clause-kept : goal.returns-clause-kept
returns-clause-kept c = made_keeps_address

pub returns-clause-gone : goal.returns-clause-gone
returns-clause-gone c = freed_is_gone

pub returns-clause-beginnings : goal.returns-clause-beginnings
returns-clause-beginnings c before after end legal = run_apart empty_memory end before after legal
