use Rattle.std.proofs.Common.{◌≡◌, ap, sym, ◌∙◌}
use Rattle.history_reading.specs.declared.faults.CallError.TheVariants.{Text, Order, Read, Memory}
use Rattle.history_judge.proofs.CallsCome.{fault_stopped}
use Rattle.history_judge.proofs.ordered.calls_in.Goals as goal

pub returns-in-Err-Text-clause-none : goal.returns-in-Err-Text-clause-none
returns-in-Err-Text-clause-none c = λ _.
    fault_stopped c.args.text.now c.new-input.result.inner.now _ c.in-Err-Text.field-0 (ap (λ r. r.now) c.new-input.ensures.inner) c.in-Err-Text.ensures.fault
    (λ read. let both : Text c.in-Err-Text.field-0-0 ≡ Read = sym c.in-Err-Text.field-0-is ∙ read in cc both)
    (λ memory. let both : Text c.in-Err-Text.field-0-0 ≡ Memory = sym c.in-Err-Text.field-0-is ∙ memory in cc both)

pub returns-in-Err-Order-clause-none : goal.returns-in-Err-Order-clause-none
returns-in-Err-Order-clause-none c = λ _.
    fault_stopped c.args.text.now c.new-input.result.inner.now _ c.in-Err-Order.field-0 (ap (λ r. r.now) c.new-input.ensures.inner) c.in-Err-Order.ensures.fault
    (λ read. let both : Order c.in-Err-Order.field-0-0 ≡ Read = sym c.in-Err-Order.field-0-is ∙ read in cc both)
    (λ memory. let both : Order c.in-Err-Order.field-0-0 ≡ Memory = sym c.in-Err-Order.field-0-is ∙ memory in cc both)
