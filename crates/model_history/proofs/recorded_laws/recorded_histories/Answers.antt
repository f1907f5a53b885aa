use Rattle.model_history.specs.Recorded.{any_allocator, nothing_recorded}
use Rattle.model_history.proofs.Given.{given_once}
use Rattle.model_history.proofs.Steps.{one_end}
use Rattle.model_history.proofs.recorded_laws.recorded_histories.Goals as goal

pub returns-clause-one_end : goal.returns-clause-one_end
returns-clause-one_end c allocator entries m n run run' = one_end allocator (nothing_recorded allocator) entries m n run run'

pub returns-clause-once : goal.returns-clause-once
returns-clause-once c before between after worker cell len word address worker' cell' len' word' address' serial end run =
    given_once (nothing_recorded any_allocator) before between after worker cell len word address worker' cell' len' word' address' serial end run
