use Rattle.std.proofs.Common.{◌≡◌, ◌++◌}
use Rattle.std.specs.List.{flat_map, range_with_len}
use Rattle.otherwise_frames.specs.Frames.{listed, object_at}
use Rattle.otherwise_frames.proofs.frames.add_slot_objects.Given as goal

abbrev pub invariant-loop-serial : goal.invariant-loop-serial
invariant-loop-serial l =
    l.rows.items ≡ l.initial.rows.items
    ++ flat_map (λ serial. listed (object_at l.memory l.group.class l.member l.slot serial)) (range_with_len 0 l.serial)
