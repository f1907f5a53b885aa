use Rattle.std.proofs.Common.{◌≡◌, Ok, ap, ◌∙◌, rules, subst}
use Rattle.model_jobs.specs.JobFiles.{take_fields}
use Rattle.text_fields.specs.Lines.{line_fields, texts}
use Rattle.text_job.specs.Draft.{draft_of}
use Rattle.text_job.specs.Reading.{IsFaultOfStep}
use Rattle.text_job.proofs.LineTakes.{line_refused}
use Rattle.text_job.proofs.TextLines.{line_fault, line_taken, split_is_line}
use Rattle.text_job.proofs.draft.Draft.take_few_fields.Goals as goal

pub returns-in_err-take : goal.returns-in_err-take
returns-in_err-take c =
    let split = c.in-Some.ensures.split in
    let fields : texts c.as_slice.result.now ≡ line_fields split.line = ap texts c.as_slice.ensures.value ∙ split.has_fields in
    let told = subst (λ fs. IsFaultOfStep (take_fields (draft_of c.args.self.now) fs) c.in_err-take.field-0.0) fields c.in_err-take.ensures.err in
    line_refused _ _ _ _ _ c.from_residual.ensures.1 (line_fault c.args.text.now split.line c.in-Some.rest.now _ _ (split_is_line _ _ _ split) c.requires.going told)

pub returns-in-Some : goal.returns-in-Some
returns-in-Some c =
    let split = c.in-Some.ensures.split in
    let fields : texts c.as_slice.result.now ≡ line_fields split.line = ap texts c.as_slice.ensures.value ∙ split.has_fields in
    let taken = subst (λ fs. take_fields (draft_of c.args.self.now) fs ≡ Ok (draft_of c.take.new.self)) fields c.in_ok-take.ensures.ok in
    record {
      draft = search rules;
      shorter = search rules;
      ok = line_taken _ split.line _ _ _ (split_is_line _ _ _ split) c.requires.going taken;
      part = search rules;
      err = tt;
    }
