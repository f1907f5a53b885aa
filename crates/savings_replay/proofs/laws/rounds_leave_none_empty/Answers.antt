use Rattle.savings_replay.proofs.HeldGroups.{rounds_leave_none}
use Rattle.savings_replay.proofs.laws.rounds_leave_none_empty.Goals as goal

pub returns : goal.returns
returns c = rounds_leave_none
