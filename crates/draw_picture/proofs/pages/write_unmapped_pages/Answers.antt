use Rattle.draw_picture.proofs.Rows.{rows_more}
use Rattle.draw_picture.proofs.pages.write_unmapped_pages.Goals as goal

pub loop-place-preserved : goal.loop-place-preserved
loop-place-preserved c = rows_more _ c.loop-place.place c.args.text.now.items c.loop-place.text.items c.write_unmapped.new.text.items c.loop-place.invariant c.in_ok-write_unmapped.ensures
