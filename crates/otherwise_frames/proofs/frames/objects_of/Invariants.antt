use Rattle.std.proofs.Common.{◌≡◌, take}
use Rattle.otherwise_frames.specs.Frames.{objects_of}
use Rattle.otherwise_frames.proofs.frames.objects_of.Given as goal

abbrev pub invariant-loop-group : goal.invariant-loop-group
invariant-loop-group l = l.rows.items ≡ objects_of l.memory (take l.group-index l.groups)
