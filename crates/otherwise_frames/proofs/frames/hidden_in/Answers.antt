use Rattle.std.proofs.Common.{[], ◌++◌, ap, ◌∙◌}
use Rattle.otherwise_frames.specs.Frames.{hidden_at, listed}
use Rattle.otherwise_frames.proofs.Listed.{rows_more}
use Rattle.otherwise_frames.proofs.frames.hidden_in.Goals as goal

pub loop-page-preserved : goal.loop-page-preserved
loop-page-preserved c =
    rows_more (λ page. listed (hidden_at c.args.entries.now page)) c.loop-page.page [] c.loop-page.rows.items
    c.add.new.rows.items c.loop-page.invariant
    (c.in_ok-add.ensures ∙ ap (λ row. c.loop-page.rows.items ++ listed row) c.in_ok-hidden_at.ensures)
