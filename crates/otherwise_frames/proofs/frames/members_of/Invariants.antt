use Rattle.std.proofs.Common.{◌≡◌, take}
use Rattle.otherwise_frames.specs.Frames.{members_of}
use Rattle.otherwise_frames.proofs.frames.members_of.Given as goal

abbrev pub invariant-loop-group : goal.invariant-loop-group
invariant-loop-group l = l.rows.items ≡ members_of (take l.group-index l.groups)
