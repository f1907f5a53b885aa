use Rattle.std.proofs.Common.{◌≡◌, take}
use Rattle.std.specs.List.{flat_map}
use Rattle.otherwise_frames.specs.Frames.{group_homes}
use Rattle.otherwise_frames.proofs.frames.homes_of.Given as goal

abbrev pub invariant-loop-group : goal.invariant-loop-group
invariant-loop-group l = l.rows.items ≡ flat_map (group_homes l.heap.taken) (take l.group-index l.heap.groups)
