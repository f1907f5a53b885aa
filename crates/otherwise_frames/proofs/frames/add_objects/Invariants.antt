use Rattle.std.proofs.Common.{◌≡◌, ◌++◌, take}
use Rattle.std.specs.List.{flat_map}
use Rattle.otherwise_frames.specs.Frames.{member_objects}
use Rattle.otherwise_frames.proofs.frames.add_objects.Given as goal

abbrev pub invariant-loop-member : goal.invariant-loop-member
invariant-loop-member l =
    l.rows.items ≡ l.initial.rows.items
    ++ flat_map (member_objects l.memory l.group.class) (take l.member-index l.group.members)
