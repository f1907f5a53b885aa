use Rattle.std.proofs.Common.{◌≡◌, true, false, nat_eq, List, map, refl, rules, subst, sym, ◌∙◌}
use Rattle.std.specs.List.{list_any}
use Rattle.model_intervals.specs.Completions.{never}
use Rattle.model_intervals.specs.Intervals.{IsLinearizable}
use Rattle.model_intervals.specs.OverlappingCalls.{IsHistory}
use Rattle.history_reading.specs.CallWords.{plain_call}
use Rattle.history_reading.specs.declared.words.TimedCall.{TimedCall}
use Rattle.text_devices.proofs.LineSteps.{handed_on}
use Rattle.history_overlaps.specs.Followed.{IsStopped}
use Rattle.history_judge.specs.OrderedHistories.{AreCallsOf, HasNoAnswer, order_fault_of}
use Rattle.history_judge.proofs.CallsCome.{no_answer}
use Rattle.history_judge.proofs.PendingCalls.{ordered, pending_text, unexplained_text}
use Rattle.history_judge.proofs.ordered.ordered_history.Goals as goal

pub returns-then-some_pending-clause-none : goal.returns-then-some_pending-clause-none
returns-then-some_pending-clause-none c = λ _.
    let are : AreCallsOf c.args.text.now c.in-Some.calls.items = (let told = rw c.in-Some.is at c.in_ok-calls.ensures.calls in told) in
    pending_text c.args.text.now c.in-Some.calls.items are
    (subst (λ (l : List TimedCall). list_any (λ call. nat_eq call.end never) l ≡ true) c.as_slice.ensures.value (sym c.some_pending.ensures ∙ c.if-some_pending.true))

pub returns-in_err-order-clause-stopped : goal.returns-in_err-order-clause-stopped
returns-in_err-order-clause-stopped c =
    let fault = c.in_err-order.field-0.0 in let calls = c.in-Some.calls.items in
    let are : AreCallsOf c.args.text.now calls = (let told = rw c.in-Some.is at c.in_ok-calls.ensures.calls in told) in
    handed_on c.from_residual-in_err-order.result (order_fault_of fault) (HasNoAnswer c.args.text.now c.args.most) c.from_residual-in_err-order.ensures.1
    (no_answer c.args.text.now c.args.most calls fault are
    (subst (λ (l : List TimedCall). IsStopped (map plain_call l) c.args.most fault) c.as_slice-2.ensures.value c.in_err-order.ensures.stopped))

pub returns-in_default-2-clause-none : goal.returns-in_default-2-clause-none
returns-in_default-2-clause-none c = λ _.
    let are : AreCallsOf c.args.text.now c.in-Some.calls.items = (let told = rw c.in-Some.is at c.in_ok-calls.ensures.calls in told) in
    let told = rw c.in_default-2.is at c.in_ok-order.ensures.none in
    unexplained_text c.args.text.now c.in-Some.calls.items are
    (subst (λ (l : List TimedCall). list_any (λ call. nat_eq call.end never) l ≡ false) c.as_slice.ensures.value (sym c.some_pending.ensures ∙ c.if-some_pending.false))
    (subst (λ (l : List TimedCall). IsHistory (map plain_call l) → IsLinearizable (map plain_call l) → ⊥) c.as_slice-2.ensures.value (told refl))

pub returns-clause-ordered : goal.returns-clause-ordered
returns-clause-ordered c =
    let are : AreCallsOf c.args.text.now c.in-Some.calls.items = (let told = rw c.in-Some.is at c.in_ok-calls.ensures.calls in told) in
    ordered c.args.text.now c.in_ok-history.history.items c.in-Some.calls.items c.in-Some-2.order.items are
    (subst (λ (l : List TimedCall). list_any (λ call. nat_eq call.end never) l ≡ false) c.as_slice.ensures.value (sym c.some_pending.ensures ∙ c.if-some_pending.false))
    (search rules) (search rules)
