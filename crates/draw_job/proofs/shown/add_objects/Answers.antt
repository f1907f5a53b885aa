use Rattle.draw_job.proofs.Rows.{rows_more}
use Rattle.draw_job.proofs.shown.add_objects.Goals as goal

pub loop-place-preserved : goal.loop-place-preserved
loop-place-preserved c =
    rows_more _ c.loop-place.place c.args.rows.now.items c.loop-place.rows.items c.add_member_objects.new.rows.items c.loop-place.invariant c.in_ok-add_member_objects.ensures
