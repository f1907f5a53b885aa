use Rattle.std.proofs.Common.{◌≡◌, List, ◌++◌, ◌∷◌, [], ap, map, rules, subst, sym, ◌∙◌}
use Rattle.std.proofs.lemmas.List.{map-append}
use Rattle.model_jobs.specs.JobFiles.{InPlan, has_ended}
use Rattle.model_jobs.specs.Jobs.{Line}
use Rattle.text_job.specs.Draft.{HasAllBefore, draft_of, section_of}
use Rattle.text_job.specs.Plan.{line_of}
use Rattle.text_job.specs.Reading.{IsReadOn}
use Rattle.text_job.proofs.PlanReadings.{plan_fits_one}
use Rattle.text_job.proofs.TextLines.{behind_shorter, spelt_line_taken}
use Rattle.text_job.proofs.draft.Draft.take_quick_call.Goals as goal

pub returns : goal.returns
returns c =
    let here : section_of c.args.self.now.section ≡ InPlan = ap section_of c.requires.section in
    let before = subst (λ section. HasAllBefore section c.args.self.now) c.requires.section c.requires.draft in
    let line = c.in-Some.line in
    let taken = c.lines_read_back.ensures.line (draft_of c.args.self.now) (line_of line) here before.0.2 c.in-Some.ensures.valid in
    let lines : map line_of c.push.new.self.items ≡ map line_of c.args.self.now.plan.items ++ line_of line ∷ [] =
    ap (map line_of) (search rules) ∙ map-append line_of c.args.self.now.plan.items (line ∷ []) in
    record {
      draft = subst (λ section. HasAllBefore section (record c.args.self.now { plan = c.push.new.self })) (sym c.requires.section)
          (before.0, before.1, plan_fits_one _ _ _ _ _ (search rules) c.in-Some.ensures.valid before.2);
      shorter = behind_shorter _ _ _ c.in-Some.ensures.spelt;
      some = subst (λ (plan : List Line). IsReadOn (draft_of c.args.self.now) c.args.text.now (record (draft_of c.args.self.now) { plan = plan }) c.in-Some.rest.now)
          (sym lines) (spelt_line_taken _ _ _ _ _ c.in-Some.ensures.spelt (ap has_ended here) taken);
      none = search rules;
    }
