use Rattle.savings_replay.proofs.AlikeHeaps.{run_more}
use Rattle.savings_replay.proofs.laws.runs_go_on.Goals as goal

pub returns : goal.returns
returns c = run_more
