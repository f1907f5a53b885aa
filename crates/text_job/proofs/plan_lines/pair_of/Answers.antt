use Rattle.std.proofs.Common.{arith}
use Rattle.text_job.proofs.Pairs.{pair_is_search}
use Rattle.text_job.proofs.plan_lines.pair_of.Goals as goal

pub returns-clause-ok : goal.returns-clause-ok
returns-clause-ok c = grind (arith, pair_is_search)

pub returns-clause-err : goal.returns-clause-err
returns-clause-err c = grind (arith, pair_is_search)
