use Rattle.std.proofs.Common.{◌++◌, ap, ◌∙◌, rules}
use Rattle.otherwise_frames.specs.Frames.{listed, object_at}
use Rattle.otherwise_frames.proofs.Listed.{rows_more}
use Rattle.otherwise_frames.proofs.frames.add_slot_objects.Goals as goal

pub loop-serial-preserved : goal.loop-serial-preserved
loop-serial-preserved c =
    rows_more (λ serial. listed (object_at c.args.memory.now c.args.group.now.class c.args.member c.args.slot serial))
    c.loop-serial.serial c.args.rows.now.items c.loop-serial.rows.items c.add.new.rows.items c.loop-serial.invariant
    (c.in_ok-add.ensures ∙ ap (λ row. c.loop-serial.rows.items ++ listed row) (search rules))
