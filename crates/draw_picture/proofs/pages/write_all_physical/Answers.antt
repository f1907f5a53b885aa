use Rattle.draw_picture.proofs.Rows.{rows_more}
use Rattle.draw_picture.proofs.pages.write_all_physical.Goals as goal

pub loop-page-preserved : goal.loop-page-preserved
loop-page-preserved c = rows_more _ c.loop-page.page c.args.text.now.items c.loop-page.text.items c.write_physical.new.text.items c.loop-page.invariant c.in_ok-write_physical.ensures
