-- What happens to a job that is being read if a line of its file is taken.
use Rattle.std.specs.Prelude.{◌≡◌, ◌<◌, List, ℕ, Option, Result, Ok, Err, length, IfOk, IfErr, IfSome, IsNone, OnOk}
use Rattle.model_jobs.specs.JobFiles.{Draft as PlainDraft}
use Rattle.model_words.specs.declared.faults.FaultKind.{FaultKind}
use Rattle.text_fields.specs.Lines.{IsPartOfLine}
use Rattle.text_job.specs.Draft.{IsDraft, draft_of}
use Rattle.text_job.specs.declared.draft.Draft.{Draft}
use Rattle.text_job.specs.Reading.{IsFaultOfLine, IsFaultOfStep, IsReadOn}
use Rattle.text_job.specs.declared.faults.LineError.{LineError}
use denote.Ref.{Bor}

-- if a line was taken, this holds of the rest after the line
abbrev pub IfTaken : {E : Type 0} → Result (Option (Bor (List ℕ))) E → (List ℕ → Type 0) → Type 0
IfTaken result holds = IfOk result (λ next. IfSome next (λ rest. holds rest.now))

-- either the next line of the text was taken into the draft, and the result is the shorter rest after the line. Or the
-- text is only the beginning of a line, and the draft is unchanged. Or the result is an error of the line
pub record HasTakenLine (old new : Draft) (text : List ℕ) (result : Result (Option (Bor (List ℕ))) LineError) : Type 0 where
  pub draft : OnOk result (IsDraft new)
  pub shorter : IfTaken result (λ rest. length rest < length text)
  pub ok : IfTaken result (λ rest. IsReadOn (draft_of old) text (draft_of new) rest)
  pub part : IfOk result (λ next. IsNone next → IsPartOfLine text × (new ≡ old))
  pub err : IfErr result (λ fault. IsFaultOfLine (draft_of old) text fault)

-- either the next line of the text was taken into the draft in one pass, and the result is the shorter rest after the
-- line. Or no line was taken, and the draft is unchanged
pub record HasTakenQuickLine {E : Type 0} (old new : Draft) (text : List ℕ) (result : Result (Option (Bor (List ℕ))) E) : Type 0 where
  pub draft : OnOk result (IsDraft new)
  pub shorter : IfTaken result (λ rest. length rest < length text)
  pub some : IfTaken result (λ rest. IsReadOn (draft_of old) text (draft_of new) rest)
  pub none : IfOk result (λ next. IsNone next → new ≡ old)

-- if the result is `Ok`, the new draft is sound, and is the draft that this step of the definitions makes. Otherwise
-- the step is refused, or out of memory
pub record IsMadeBy (step : Result PlainDraft FaultKind) (new : Draft) (result : Result (Unit {0}) LineError) : Type 0 where
  pub draft : OnOk result (IsDraft new)
  pub ok : OnOk result (step ≡ Ok (draft_of new))
  pub err : IfErr result (IsFaultOfStep step)

-- if the result is `Ok`, the new draft is sound, and is the draft that this step of the definitions makes. Otherwise
-- the step is refused. Such a step allocates nothing
pub record IsMadeInPlaceBy (step : Result PlainDraft FaultKind) (new : Draft) (result : Result (Unit {0}) FaultKind) : Type 0 where
  pub draft : OnOk result (IsDraft new)
  pub ok : OnOk result (step ≡ Ok (draft_of new))
  pub err : IfErr result (λ kind. step ≡ Err kind)
