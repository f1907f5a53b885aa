use Rattle.std.proofs.Common.{◌≡◌, ◌∙◌, ◌++◌, ap, subst, List, Option, ℕ, Some}
use Rattle.history_judge.specs.Judgements.{HasNotJudged}
use Rattle.history_reading.specs.declared.faults.CallError.{CallError}
use Rattle.history_reading.specs.declared.faults.CallError.TheVariants.{Text}
use Rattle.run_program.proofs.explain.history_fault.Goals as goal

pub returns-in-Err-Text : goal.returns-in-Err-Text
returns-in-Err-Text c =
    let source = c.new-source.result in let source' = c.judge.new.input in
    let whole : source.begun.items ++ source.inner.rest.now ≡ c.args.text.now =
    ap (λ (l : List ℕ). l ++ source.inner.rest.now) c.new-source.ensures.unread ∙ ap (λ i. i.rest.now) c.new-source.ensures.inner in
    let rest : Option (List ℕ) = Some (source'.begun.items ++ source'.inner.rest.now) in
    let known : HasNotJudged (Some (source.begun.items ++ source.inner.rest.now)) rest c.in-Err-Text.field-0 = c.in-Err-Text.ensures.fault in
    (rest, subst (λ (l : List ℕ). HasNotJudged (Some l) rest (Text c.in-Err-Text.fault)) whole (subst (λ (e : CallError). HasNotJudged (Some (source.begun.items ++ source.inner.rest.now)) rest e) c.in-Err-Text.field-0-is known))
