use Rattle.model_intervals.proofs.GivenKeys.{keys_explain}
use Rattle.model_intervals.proofs.locality_laws.keys_explain.Goals as goal

pub returns : goal.returns
returns c calls orders keyed history explained explains are = keys_explain calls orders keyed history explained explains are
