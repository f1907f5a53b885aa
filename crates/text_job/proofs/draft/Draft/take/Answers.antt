use Rattle.std.proofs.Common.{◌≡◌, ◌≤◌, ◌-◌, arith, drop, false, get_or, length, subst, sym, take, ℕ, List, [], ◌∷◌, Bor, Result}
use Rattle.std.proofs.lemmas.List.{take_all}
use Rattle.std.specs.List.{list_any}
use Rattle.model_jobs.specs.JobFiles.{Draft as PlainDraft, is_empty, take_fields, take_in}
use Rattle.model_words.specs.declared.faults.FaultKind.{FaultKind}
use Rattle.text_fields.specs.Lines.{texts}
use Rattle.text_job.specs.Draft.{draft_of, section_of}
use Rattle.text_job.specs.Takes.{IsMadeBy}
use Rattle.text_job.specs.declared.draft.Draft.{Draft}
use Rattle.text_job.specs.declared.draft.Section.{Section}
use Rattle.text_job.proofs.draft.Draft.take.Goals as goal

-- filled fields are taken in the draft's section, the first as the line's word
taken : (d : Draft) (all : List (Bor (List ℕ))) (other : Bor (List ℕ)) (section : Section) → 1 ≤ length all → list_any is_empty (texts all) ≡ false
    → d.section ≡ section
    → take_fields (draft_of d) (texts all) ≡ take_in (section_of section) (draft_of d) (get_or all 0 other).now (texts (take (length all - 1) (drop 1 all)))
taken d [] other section some filled is = absurd (omega (arith, some))
taken d (word ∷ rest) other section some filled is = grind (arith, take_all)

pub returns-in-Worker : goal.returns-in-Worker
returns-in-Worker c =
    let is = taken c.args.self.now c.args.fields.now _ _ c.in-len1-up.len_at_least c.requires.filled c.in-Worker.is in
    subst (λ (step : Result PlainDraft FaultKind). IsMadeBy step c.take_in_script.new.self c.take_in_script.result) (sym is) c.take_in_script.ensures

pub returns-in-Plan : goal.returns-in-Plan
returns-in-Plan c =
    let is = taken c.args.self.now c.args.fields.now _ _ c.in-len1-up.len_at_least c.requires.filled c.in-Plan.is in
    subst (λ (step : Result PlainDraft FaultKind). IsMadeBy step c.take_in_plan.new.self c.take_in_plan.result) (sym is) c.take_in_plan.ensures

pub returns-in_ok-take_header-in_default-section : goal.returns-in_ok-take_header-in_default-section
returns-in_ok-take_header-in_default-section c = grind (arith, taken)
