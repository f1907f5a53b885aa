use Rattle.std.proofs.Common.{◌++◌, ap, ◌∙◌, rules}
use Rattle.otherwise_frames.specs.Frames.{home_at, listed}
use Rattle.otherwise_frames.proofs.Listed.{rows_more}
use Rattle.otherwise_frames.proofs.frames.add_homes.Goals as goal

pub loop-place-preserved : goal.loop-place-preserved
loop-place-preserved c =
    rows_more (λ place. listed (home_at c.args.heap.now.taken c.args.group.now place)) c.loop-place.place
    c.args.rows.now.items c.loop-place.rows.items c.add.new.rows.items c.loop-place.invariant
    (c.in_ok-add.ensures ∙ ap (λ row. c.loop-place.rows.items ++ listed row) (search rules))
