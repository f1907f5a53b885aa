use Rattle.std.proofs.Common.{◌≡◌, ◌∙◌, ◌++◌, ap, subst, sym, List, ℕ, Some, Err}
use Rattle.std.proofs.lemmas.Bool.{true≢false}
use Rattle.history_judge.specs.Judgements.{HasJudged, HasNotJudged}
use Rattle.run_program.proofs.CertificateStops.{judging_stops_as}
use Rattle.run_program.proofs.certificate.judged.Goals as goal

pub returns-in_err-judgement-clause-stopped : goal.returns-in_err-judgement-clause-stopped
returns-in_err-judgement-clause-stopped c =
    let source = c.new-source.result in let source' = c.judge.new.input in
    let whole : source.begun.items ++ source.inner.rest.now ≡ c.args.text.now =
    ap (λ (l : List ℕ). l ++ source.inner.rest.now) c.new-source.ensures.unread ∙ ap (λ i. i.rest.now) c.new-source.ensures.inner in
    let rest = source'.begun.items ++ source'.inner.rest.now in
    let error = c.in_err-judgement.field-0.0 in
    judging_stops_as c.args.text.now error c.from_residual.result c.from_residual.ensures.1
    (λ is. true≢false (sym (c.in_err-judgement.ensures.read (ap Err is))))
    (rest, subst (λ (l : List ℕ). HasNotJudged (Some l) (Some rest) error) whole c.in_err-judgement.ensures.fault)

pub returns-clause-judged : goal.returns-clause-judged
returns-clause-judged c =
    let source = c.new-source.result in let source' = c.judge.new.input in
    let whole : source.begun.items ++ source.inner.rest.now ≡ c.args.text.now =
    ap (λ (l : List ℕ). l ++ source.inner.rest.now) c.new-source.ensures.unread ∙ ap (λ i. i.rest.now) c.new-source.ensures.inner in
    let rest = source'.begun.items ++ source'.inner.rest.now in
    (rest, subst (λ (l : List ℕ). HasJudged c.args.most (Some l) (Some rest) c.in_ok-judgement.judgement) whole c.in_ok-judgement.ensures.judged)
