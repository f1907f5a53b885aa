use Rattle.std.proofs.Common.{◌≡◌, Ok, ap, ◌∙◌, rules, subst}
use Rattle.model_jobs.specs.JobFiles.{take_fields}
use Rattle.model_words.specs.declared.faults.FaultKind.TheVariants.{Word}
use Rattle.text_fields.specs.Lines.{line_fields, texts}
use Rattle.text_job.specs.Draft.{draft_of}
use Rattle.text_job.specs.Reading.{IsFaultOfStep}
use Rattle.text_job.specs.declared.faults.LineError.TheVariants.{Kind as LineKind}
use Rattle.text_job.proofs.LineTakes.{line_refused}
use Rattle.text_job.proofs.ManyFields.{no_fields}
use Rattle.text_job.proofs.TextLines.{IsLine, line_fault, line_taken}
use Rattle.text_job.proofs.draft.Draft.take_all_fields.Goals as goal

pub returns-in_err-fields : goal.returns-in_err-fields
returns-in_err-fields c =
    let line : IsLine c.args.text.now c.in-Some.line.now c.in-Some.rest.now = search rules in
    let none = no_fields (draft_of c.args.self.now) _ c.in_err-fields.ensures.err c.requires.going in
    line_refused _ _ _ _ _ c.from_residual-in_err-fields.ensures.1 (rw c.in_err-fields.ensures.kind (line_fault _ _ _ (draft_of c.args.self.now) (LineKind Word) line c.requires.going none))

pub returns-in_err-take : goal.returns-in_err-take
returns-in_err-take c =
    let line : IsLine c.args.text.now c.in-Some.line.now c.in-Some.rest.now = search rules in
    let fields : texts c.as_slice.result.now ≡ line_fields c.in-Some.line.now = ap texts c.as_slice.ensures.value ∙ c.in_ok-fields.ensures.fields in
    let told = subst (λ fs. IsFaultOfStep (take_fields (draft_of c.args.self.now) fs) c.in_err-take.field-0.0) fields c.in_err-take.ensures.err in
    line_refused _ _ _ _ _ c.from_residual-in_err-take.ensures.1 (line_fault _ _ _ _ _ line c.requires.going told)

pub returns : goal.returns
returns c =
    let line : IsLine c.args.text.now c.in-Some.line.now c.in-Some.rest.now = search rules in
    let fields : texts c.as_slice.result.now ≡ line_fields c.in-Some.line.now = ap texts c.as_slice.ensures.value ∙ c.in_ok-fields.ensures.fields in
    let taken = subst (λ fs. take_fields (draft_of c.args.self.now) fs ≡ Ok (draft_of c.take.new.self)) fields c.in_ok-take.ensures.ok in
    record {
      draft = search rules;
      shorter = search rules;
      ok = line_taken c.args.text.now c.in-Some.line.now c.in-Some.rest.now (draft_of c.args.self.now) (draft_of c.take.new.self) line c.requires.going taken;
      part = search rules;
      err = tt;
    }
