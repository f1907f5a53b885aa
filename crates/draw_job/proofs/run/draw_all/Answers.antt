use Rattle.draw_job.proofs.Written.{drawn}
use Rattle.draw_job.proofs.run.draw_all.Goals as goal

pub returns-clause-drawn : goal.returns-clause-drawn
returns-clause-drawn g c =
    drawn c.args.picture _ _ _ _ c.new-drawing.new.text c.end.new.text (c.new-drawing.ensures.begins c.new-text.ensures)
    (c.new-drawing.ensures.head c.new-text.ensures) c.in_ok-write_out.ensures.wrote
    c.in_ok-show_points.ensures.wrote c.in_ok-write_out-2.ensures.wrote
