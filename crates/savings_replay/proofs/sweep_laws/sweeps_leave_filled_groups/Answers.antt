use Rattle.savings_replay.proofs.FilledGroups.{swept_filled}
use Rattle.savings_replay.proofs.sweep_laws.sweeps_leave_filled_groups.Goals as goal

pub returns : goal.returns
returns c = swept_filled
