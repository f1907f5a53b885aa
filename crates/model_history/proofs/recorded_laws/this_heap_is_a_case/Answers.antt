use Rattle.model_memory.specs.Memory.{empty_memory}
use Rattle.model_history.specs.RecordedLaws.{counted}
use Rattle.model_history.proofs.Counted.{runs_back, runs_counted}
use Rattle.model_history.proofs.recorded_laws.this_heap_is_a_case.Goals as goal

pub returns : goal.returns
returns c entries end = (λ legal. runs_counted empty_memory end entries legal, λ run. runs_back empty_memory entries (counted end) run)
