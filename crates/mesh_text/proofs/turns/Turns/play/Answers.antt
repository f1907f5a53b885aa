use Rattle.std.proofs.Common.{◌∙◌, ap, length, subst}
use Rattle.std.proofs.lemmas.Result.{on_ok_weaker}
use Rattle.model_jobs.specs.JobFiles.{IsValidLine}
use Rattle.model_jobs.specs.Jobs.{Job}
use Rattle.text_job.specs.Plan.{line_of}
use Rattle.mesh_text.specs.Turns.{state_up_to}
use Rattle.mesh_text.proofs.AnswerLines.{line_played}
use Rattle.mesh_text.proofs.PlanLines.{line_fits, within_lines}
use Rattle.mesh_text.proofs.turns.Turns.play.Goals as goal

pub answer-requires-clause-fits : goal.answer-requires-clause-fits
answer-requires-clause-fits c =
    let plan = c.lines.ensures ∙ ap (λ (j : Job). j.plan) c.job.view_is in
    subst (λ (j : Job). IsValidLine j.version (length j.scripts) (line_of c.index-lines-place.result)) c.job.view_is
    (line_fits _ _ _ _ _ _ _ c.lines.ensures c.job.invariant.plan_fits (within_lines _ _ _ plan c.requires.within) c.index-lines-place.is)

pub returns-clause-stands : goal.returns-clause-stands
returns-clause-stands c =
    let plan = c.lines.ensures ∙ ap (λ (j : Job). j.plan) c.job.view_is in
    on_ok_weaker c.answer.result
    (λ told. record {
      workers = c.answer.ensures.workers ∙ c.requires.stands.workers;
      at = (line_played _ _ _ _ _ _ _ _ _ plan (within_lines _ _ _ plan c.requires.within) c.index-lines-place.is
          (told (state_up_to c.args.job.now c.args.place) c.requires.stands.at) c.clear.ensures.items).at;
    })
    c.answer.ensures.told

pub returns-clause-told : goal.returns-clause-told
returns-clause-told c =
    let plan = c.lines.ensures ∙ ap (λ (j : Job). j.plan) c.job.view_is in
    on_ok_weaker c.answer.result (λ told. (line_played _ _ _ _ _ _ _ _ _ plan (within_lines _ _ _ plan c.requires.within) c.index-lines-place.is
    (told (state_up_to c.args.job.now c.args.place) c.requires.stands.at) c.clear.ensures.items).told)
    c.answer.ensures.told
