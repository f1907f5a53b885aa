use Rattle.draw_picture.proofs.Rows.{rows_more}
use Rattle.draw_picture.proofs.objects.add_row_bounds.Goals as goal

pub loop-row-preserved : goal.loop-row-preserved
loop-row-preserved c = rows_more _ c.loop-row.row c.args.points.now.items c.loop-row.points.items c.add_row_bound.new.points.items c.loop-row.invariant c.in_ok-add_row_bound.ensures
