use Rattle.std.proofs.Common.{ℕ, Option, subst}
use Rattle.draw_svg.specs.Begins.{Begins}
use Rattle.draw_job.specs.Notes.{note_of_job}
use Rattle.draw_job.proofs.Written.{drawn_job, lines_are}
use Rattle.draw_job.proofs.run.paint.Goals as goal

pub returns-clause-drawn : goal.returns-clause-drawn
returns-clause-drawn g c =
    let options = c.args.options.now in
    let job = c.args.job.now in
    let picture = c.in_ok-picture.picture in
    let lines = lines_are job c.max-from.result c.min-to.result options.from options.to _ c.max-from.ensures c.min-to.ensures c.in_ok-measuring.ensures.shown in
    drawn_job picture options.title.now options.from options.to job _ _ c.in_ok-picture.ensures.title c.in_ok-picture.ensures.name
    (subst (λ (shown : Option (ℕ × ℕ)). Begins (note_of_job job shown) picture.note) lines c.in_ok-picture.ensures.note) c.in_ok-drawn.ensures.drawn
