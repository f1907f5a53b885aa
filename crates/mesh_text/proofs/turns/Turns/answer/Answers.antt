use Rattle.std.proofs.Common.{ap, refl, subst}
use Rattle.std.specs.Prelude.{codes}
use Rattle.model_jobs.specs.Jobs.{Job, PagesMeshed, PagesSwept, StepsLeft, busy_in, counted}
use Rattle.model_heap.specs.Mesh.{begin, cancel, mesh_in, mesh_whole}
use Rattle.model_heap.specs.Table.{sweep}
use Rattle.model_words.specs.declared.versions.Version.{Version}
use Rattle.mesh_text.specs.Answers.{count_told}
use Rattle.mesh_text.specs.Turns.{IsCall}
use Rattle.mesh_text.proofs.LineTexts.{counted_on, told_on}
use Rattle.mesh_text.proofs.MesherCalls.{counted_call, report_call, stepped_call}
use Rattle.mesh_text.proofs.turns.Turns.answer.Goals as goal

pub returns-in_ok-pair-in-Pair-clause-told : goal.returns-in_ok-pair-in-Pair-clause-told
returns-in_ok-pair-in-Pair-clause-told c = rw (c.in-Pair.is, ← c.deref.ensures) (told_on c.add_found-in-Pair.result _ _ _ _ _ _ _ _ (λ state. c.in_ok-pair-in-Pair.ensures _ state _) c.add_found-in-Pair.ensures)

pub returns-in-Begin-clause-told : goal.returns-in-Begin-clause-told
returns-in-Begin-clause-told c =
    let at_version = subst (λ (version : Version). IsCall (λ state. counted state StepsLeft (begin (busy_in version) state.table c.in-Begin.source c.in-Begin.destination)) c.args.self.now.book c.begin.new.book
    (count_told StepsLeft c.begin.result)) (ap (λ (j : Job). j.version) c.job.view_is) c.begin.ensures in
    rw c.in-Begin.is (counted_on c.add_counted.result _ _ _ _ _ (codes "left ") StepsLeft c.begin.result _ _ (λ n. refl) (λ state. at_version _ state _) c.add_counted.ensures)

pub returns-in-Step-clause-told : goal.returns-in-Step-clause-told
returns-in-Step-clause-told c = rw c.in-Step.is (told_on c.add_step.result _ _ _ _ _ _ _ _ (λ state. c.step_first.ensures _ state _) c.add_step.ensures)

pub returns-in-Cancel-clause-told : goal.returns-in-Cancel-clause-told
returns-in-Cancel-clause-told c = rw c.in-Cancel.is (counted_on c.add_counted-in-Cancel.result _ _ _ _ _ (codes "left ") StepsLeft c.cancel_first.result _ _ (λ n. refl) (λ state. c.cancel_first.ensures _ state _) c.add_counted-in-Cancel.ensures)

pub returns-in-StepClass-clause-told : goal.returns-in-StepClass-clause-told
returns-in-StepClass-clause-told c = rw c.in-StepClass.is (told_on c.add_step-in-StepClass.result _ _ _ _ _ _ _ _ (λ state. stepped_call _ _ c.in-StepClass.class c.step.result c.step.ensures _ state _) c.add_step-in-StepClass.ensures)

pub returns-in-CancelClass-clause-told : goal.returns-in-CancelClass-clause-told
returns-in-CancelClass-clause-told c = rw c.in-CancelClass.is (counted_on c.add_counted-in-CancelClass.result _ _ _ _ _ (codes "left ") StepsLeft c.cancel.result _ _ (λ n. refl) (λ state. counted_call StepsLeft (λ t. cancel t (mesh_in t c.in-CancelClass.class)) _ _ c.cancel.result (λ n m. m.table) c.cancel.ensures _ state _) c.add_counted-in-CancelClass.ensures)

pub returns-in-Whole-clause-told : goal.returns-in-Whole-clause-told
returns-in-Whole-clause-told c =
    let at_version = subst (λ (version : Version). IsCall (λ state. counted state PagesMeshed (mesh_whole (busy_in version) state.table c.in-Whole.source c.in-Whole.destination)) c.args.self.now.book c.whole.new.book
    (count_told PagesMeshed c.whole.result)) (ap (λ (j : Job). j.version) c.job.view_is) c.whole.ensures in
    rw c.in-Whole.is (counted_on c.add_counted-in-Whole.result _ _ _ _ _ (codes "meshed ") PagesMeshed c.whole.result _ _ (λ n. refl) (λ state. at_version _ state _) c.add_counted-in-Whole.ensures)

pub returns-in-Sweep-clause-told : goal.returns-in-Sweep-clause-told
returns-in-Sweep-clause-told c = rw c.in-Sweep.is (counted_on c.add_counted-in-Sweep.result _ _ _ _ _ (codes "swept ") PagesSwept c.sweep.result _ _ (λ n. refl) (λ state. counted_call PagesSwept (λ t. sweep t c.in-Sweep.group) _ _ c.sweep.result (λ n m. m.table) c.sweep.ensures _ state _) c.add_counted-in-Sweep.ensures)

pub returns-in-Report-clause-told : goal.returns-in-Report-clause-told
returns-in-Report-clause-told c = rw c.in-Report.is (told_on c.add_report.result _ _ _ _ _ _ _ _ (λ state. report_call _ c.report.result c.report.ensures _ state _) c.add_report.ensures)
