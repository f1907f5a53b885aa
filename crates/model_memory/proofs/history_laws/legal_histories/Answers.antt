use Rattle.model_memory.specs.Memory.{empty_memory}
use Rattle.model_memory.proofs.Histories.{Runs_more, Runs_end}
use Rattle.model_memory.proofs.history_laws.legal_histories.Goals as goal

pub returns-clause-goes_on : goal.returns-clause-goes_on
returns-clause-goes_on c entries m n entry legal step = Runs_more empty_memory entries m n entry legal step

pub returns-clause-one_end : goal.returns-clause-one_end
returns-clause-one_end c entries m n legal legal' = Runs_end empty_memory entries m n legal legal'
