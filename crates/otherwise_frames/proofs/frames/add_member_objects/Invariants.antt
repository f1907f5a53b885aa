use Rattle.std.proofs.Common.{◌≡◌, ◌++◌}
use Rattle.std.specs.List.{flat_map, range_with_len}
use Rattle.otherwise_frames.specs.Frames.{slot_objects}
use Rattle.otherwise_frames.proofs.frames.add_member_objects.Given as goal

abbrev pub invariant-loop-slot : goal.invariant-loop-slot
invariant-loop-slot l =
    l.rows.items ≡ l.initial.rows.items
    ++ flat_map (slot_objects l.memory l.group.class l.member) (range_with_len 0 l.slot)
