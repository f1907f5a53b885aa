use Rattle.std.proofs.Common.{◌≡◌, ◌+◌, true, List, Option, Some, None, ◌∙◌, arith, drop, rules, subst, sym, take}
use Rattle.std.specs.Option.{IfSome, is_some}
use Rattle.model_intervals.specs.Intervals.{Call}
use Rattle.history_in_order.specs.Judged.{IsWrong}
use Rattle.history_reading.specs.CallWords.{plain_call}
use Rattle.history_overlaps.specs.Orders.{IsLegalOrder, calls_in_order}
use Rattle.history_overlaps.proofs.InOrder.{in_order_more, in_order_split}
use Rattle.history_overlaps.proofs.Rejected.{not_taken, too_late}
use Rattle.history_overlaps.proofs.SoFar.{IsSoFar, more_so_far}
use Rattle.history_overlaps.proofs.certificates.is_legal_order.Goals as goal

-- what holds if there is a reason
some_then : {X : Type 0} (P : Type 0) (found : Option X) → IfSome found (λ _. P) → is_some found ≡ true → P
some_then P None h is = absurd (cc is)
some_then P (Some reason) h is = h

pub judge-requires-clause-few : goal.judge-requires-clause-few
judge-requires-clause-few c = let few = c.loop-number.invariant.few in omega (arith, few, c.loop-number-test.true, c.requires.few)

pub loop-number-preserved : goal.loop-number-preserved
loop-number-preserved c =
    let calls = c.args.calls.now in
    let order = c.args.order.now in
    let i = c.loop-number.number-index in
    let call = c.index-calls-number.result in
    let more = in_order_more calls order i call (omega arith) (c.requires.places i 0 (omega arith)) c.index-calls-number.is in
    subst (λ (some : List Call). IsSoFar c.judge.new.self c.max-begun.result (i + 1) some) (sym more)
    (more_so_far c.loop-number.memory c.judge.new.self c.loop-number.begun c.max-begun.result i (calls_in_order calls (take i order)) (plain_call call)
    c.loop-number.invariant (c.in_ok-judge.ensures.taken (search rules)) c.in_ok-judge.ensures.made (omega arith) (omega arith))

pub returns-then-call-begun-clause-illegal : goal.returns-then-call-begun-clause-illegal
returns-then-call-begun-clause-illegal c = λ _ legal.
    let calls = c.args.calls.now in
    let order = c.args.order.now in
    let i = c.loop-number.number-index in
    let call = c.index-calls-number.result in
    let split = in_order_split calls order i call (omega arith) (c.requires.places i 0 (omega arith)) c.index-calls-number.is in
    too_late c.loop-number.memory c.loop-number.begun i (calls_in_order calls (take i order)) (calls_in_order calls (drop (i + 1) order)) (plain_call call)
    c.loop-number.invariant c.if-call-begun.true (subst (λ (some : List Call). IsLegalOrder some) split legal)

pub returns-then-is_some-clause-illegal : goal.returns-then-is_some-clause-illegal
returns-then-is_some-clause-illegal c = λ _ legal.
    let calls = c.args.calls.now in
    let order = c.args.order.now in
    let i = c.loop-number.number-index in
    let call = c.index-calls-number.result in
    let split = in_order_split calls order i call (omega arith) (c.requires.places i 0 (omega arith)) c.index-calls-number.is in
    let wrong = some_then (IsWrong c.loop-number.memory (plain_call call).entry.command (plain_call call).entry.reply) c.in_ok-judge.field-0
    c.in_ok-judge.ensures.wrong (sym c.is_some.ensures ∙ c.if-is_some.true) in
    not_taken c.loop-number.memory c.loop-number.begun i (calls_in_order calls (take i order)) (calls_in_order calls (drop (i + 1) order)) (plain_call call)
    c.loop-number.invariant wrong (subst (λ (some : List Call). IsLegalOrder some) split legal)
