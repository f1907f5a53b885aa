use Rattle.std.proofs.Common.{◌≡◌, ◌++◌, map, take}
use Rattle.otherwise_frames.specs.Frames.{member_of}
use Rattle.otherwise_frames.proofs.frames.add_members.Given as goal

abbrev pub invariant-loop-first : goal.invariant-loop-first
invariant-loop-first l =
    l.rows.items ≡ l.initial.rows.items ++ map (member_of l.group) (take l.first-index l.group.members)
