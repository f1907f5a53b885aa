use Rattle.std.proofs.Common.{◌++◌, ap, ◌∙◌}
use Rattle.draw_job.specs.Frames.{listed, object_row}
use Rattle.draw_job.proofs.Rows.{rows_more}
use Rattle.draw_job.proofs.shown.add_member_objects.Goals as goal

pub loop-slot-preserved : goal.loop-slot-preserved
loop-slot-preserved c =
    rows_more (λ k. listed (object_row c.args.heap.now c.args.group c.args.place c.in-Some.first k)) c.loop-slot.slot c.args.rows.now.items
    c.loop-slot.rows.items c.add.new.rows.items c.loop-slot.invariant (c.in_ok-add.ensures ∙ ap (λ row. c.loop-slot.rows.items ++ listed row) c.object_at.ensures)
