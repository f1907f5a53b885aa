use Rattle.otherwise_frames.specs.Frames.{slot_objects}
use Rattle.otherwise_frames.proofs.Listed.{rows_more}
use Rattle.otherwise_frames.proofs.frames.add_member_objects.Goals as goal

pub loop-slot-preserved : goal.loop-slot-preserved
loop-slot-preserved c =
    rows_more (slot_objects c.args.memory.now c.args.group.now.class c.args.member) c.loop-slot.slot
    c.args.rows.now.items c.loop-slot.rows.items c.add_slot_objects.new.rows.items c.loop-slot.invariant c.in_ok-add_slot_objects.ensures
