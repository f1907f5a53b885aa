use Rattle.std.proofs.Common.{List, Some, ap, ℕ}
use Rattle.std.proofs.lemmas.Bool.Decides.{Decides-eqb}
use denote.Ref.{Bor}
use Rattle.history_witness.proofs.Refuted.{refuted}
use Rattle.history_witness.proofs.refuting.is_refuted.Goals as goal

pub returns-in-Ok-Flawed : goal.returns-in-Ok-Flawed
returns-in-Ok-Flawed c = λ same.
    refuted c.args.most c.args.text.now c.new-input.result.inner.now (Some c.check_calls.new.input.inner.now) c.in-Ok-Flawed.field-0 c.in-Ok-Flawed.wrong c.args.line c.in-Ok-Flawed.field-0-1
    (ap (λ (r : Bor (List ℕ)). r.now) c.new-input.ensures.inner) c.in-Ok-Flawed.ensures.judged c.in-Ok-Flawed.field-0-is ((Decides-eqb c.in-Ok-Flawed.wrong c.args.line).0 same)
