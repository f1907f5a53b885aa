use Rattle.std.proofs.Common.{arith}
use Rattle.model_memory.specs.Memory.{empty_memory}
use Rattle.model_memory.proofs.ToldReads.{few_made}
use Rattle.model_memory.proofs.read_laws.few_are_made.Goals as goal

pub returns : goal.returns
returns c entries = let few = few_made entries empty_memory in omega (arith, few)
