use Rattle.std.proofs.Common.{arith, rules, subst, sym}
use Rattle.std.proofs.lemmas.Grind.{common_steps}
use Rattle.text_fields.specs.Lines.{texts}
use Rattle.text_job.specs.Draft.{HasAllBefore}
use Rattle.text_job.proofs.PlanReadings.{plan_fits_more}
use Rattle.text_job.proofs.draft.Draft.take_in_plan.Goals as goal

pub returns-in_ok-map_err : goal.returns-in_ok-map_err
returns-in_ok-map_err c =
    let before = subst (λ section. HasAllBefore section c.args.self.now) c.requires.section c.requires.draft in
    record {
      draft = subst (λ section. HasAllBefore section (record c.args.self.now { plan = c.push.new.self })) (sym c.requires.section) (
        before.0,
        before.1,
        plan_fits_more _ _ c.args.word.now (texts c.args.fields.now) _ _ _ before.0.1 (search rules) c.in_ok-line.ensures.ok before.2,
      );
      ok = grind (arith, common_steps);
      err = tt;
    }
