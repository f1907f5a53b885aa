use Rattle.std.proofs.Common.{◌∙◌, ap}
use Rattle.draw_job.proofs.Described.{ended_by}
use Rattle.draw_job.proofs.Presented.{not_presented, presented}
use Rattle.draw_job.proofs.pages.present.Goals as goal
use Rattle.draw_job.specs.declared.draw_error.DrawError.TheVariants.{Replay}
use Rattle.draw_picture.specs.Notes.{file_title}

pub returns-in_err-write_page-clause-stopped : goal.returns-in_err-write_page-clause-stopped
returns-in_err-write_page-clause-stopped g c =
    let is_title = c.as_slice.ensures.value ∙ (c.in_ok-title.ensures ∙ ap file_title c.as_bytes.ensures.value) in
    let error = c.in_err-write_page.field-0.0 in
    ended_by _ (Replay error) c.from_residual-in_err-write_page.result c.from_residual-in_err-write_page.ensures.1
    (not_presented _ _ _ _ _ _ _ _ _ _ c.in_ok-job.ensures.job is_title c.first_line-first.ensures error c.in_err-write_page.ensures.stopped)

pub returns-clause-presented : goal.returns-clause-presented
returns-clause-presented g c =
    let is_title = c.as_slice.ensures.value ∙ (c.in_ok-title.ensures ∙ ap file_title c.as_bytes.ensures.value) in
    presented _ _ _ _ _ _ _ _ _ _ c.in_ok-job.ensures.job is_title c.first_line-first.ensures c.in_ok-job.ensures.line c.in_ok-write_page.ensures.written
