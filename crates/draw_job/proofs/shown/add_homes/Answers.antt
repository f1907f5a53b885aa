use Rattle.std.proofs.Common.{ap, ◌∙◌, ◌++◌}
use Rattle.draw_job.specs.Frames.{home_row, listed}
use Rattle.draw_job.proofs.Rows.{rows_more}
use Rattle.draw_job.proofs.shown.add_homes.Goals as goal

pub loop-place-preserved : goal.loop-place-preserved
loop-place-preserved c =
    rows_more (λ i. listed (home_row c.args.heap.now c.args.group i)) c.loop-place.place c.args.rows.now.items c.loop-place.rows.items c.add.new.rows.items c.loop-place.invariant
    (c.in_ok-add.ensures ∙ ap (λ row. c.loop-place.rows.items ++ listed row) c.home_at.ensures)
