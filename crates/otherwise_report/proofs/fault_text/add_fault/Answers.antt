use Rattle.std.proofs.Common.{◌≡◌, ◌∙◌, ◌++◌, ℕ, OnOk, ap, append_assoc, codes, subst, sym}
use Rattle.model_jobs.specs.Texts.{number_field}
use Rattle.model_otherwise.specs.declared.fault.Fault.{Fault}
use Rattle.otherwise_report.proofs.Written.{on_ok}
use Rattle.otherwise_report.specs.FaultTexts.{fault_text}
use Rattle.otherwise_report.proofs.fault_text.add_fault.Goals as goal

pub returns-in-VirtualPage : goal.returns-in-VirtualPage
returns-in-VirtualPage c =
    let old = c.args.text.now.items in
    let new = c.add_number-in-VirtualPage.new.text.items in
    subst (λ (fault : Fault). OnOk c.add_number-in-VirtualPage.result (new ≡ old ++ fault_text fault)) (sym c.in-VirtualPage.is)
    (on_ok _ _ c.add_number-in-VirtualPage.result
    (λ is. is ∙ append_assoc old (codes "virtual page") (number_field c.from-in-VirtualPage.result)
    ∙ ap (λ (n : ℕ). old ++ (codes "virtual page" ++ number_field n)) c.from-in-VirtualPage.ensures)
    c.add_number-in-VirtualPage.ensures)
