use Rattle.draw_picture.proofs.Rows.{rows_more}
use Rattle.draw_picture.proofs.objects.add_slot_bounds.Goals as goal

pub loop-slot-preserved : goal.loop-slot-preserved
loop-slot-preserved c = rows_more _ c.loop-slot.slot c.args.points.now.items c.loop-slot.points.items c.add_slot_bound.new.points.items c.loop-slot.invariant c.in_ok-add_slot_bound.ensures
