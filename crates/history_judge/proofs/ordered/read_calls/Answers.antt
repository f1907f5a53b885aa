use Rattle.std.proofs.Common.{Option, refl, subst}
use Rattle.std.specs.Prelude.{IfSome, IsNone, map}
use Rattle.history_reading.specs.CallInputs.{HasEnded, HasNext}
use Rattle.history_reading.specs.CallWords.{IsReadCall, plain_call}
use Rattle.history_reading.specs.declared.words.TimedCall.{TimedCall}
use Rattle.text_devices.proofs.LineSteps.{handed_on}
use Rattle.history_judge.specs.OrderedHistories.{HasStoppedSomewhere}
use Rattle.history_judge.proofs.CallsCome.{all_came, none_came, one_came}
use Rattle.history_judge.proofs.ordered.read_calls.Goals as goal

pub loop-calls-init : goal.loop-calls-init
loop-calls-init g c = record {
  open_input = c.requires.unread;
  come = none_came c.args.history.now (g.I.Source.remaining c.args.input.now) c.new-calls.result.items c.new-calls.ensures.items c.requires.fresh;
}

pub loop-calls-preserved : goal.loop-calls-preserved
loop-calls-preserved g c =
    let left = g.I.Source.remaining c.args.input.now in let left' = g.I.Source.remaining c.next.new.input in
    let far = c.loop-calls.invariant.come in
    let next = subst (λ (o : Option TimedCall). IfSome o (HasNext c.next.new.self left left' (map plain_call c.loop-calls.calls.items))) c.in-Some.is
    (c.in_ok-call.ensures.call left (map plain_call c.loop-calls.calls.items) far.come) in
    let read = subst (λ (o : Option TimedCall). IfSome o IsReadCall) c.in-Some.is c.in_ok-call.ensures.is_read in
    record {
      open_input = c.in_ok-call.ensures.ok;
      come = one_came c.loop-calls.history c.next.new.self left (g.I.Source.remaining c.loop-calls.input) left' c.loop-calls.calls.items c.add.new.calls.items c.in-Some.call far next read
          c.in_ok-add.ensures;
    }

pub returns-clause-calls : goal.returns-clause-calls
returns-clause-calls g c =
    let left = g.I.Source.remaining c.args.input.now in let left' = g.I.Source.remaining c.next.new.input in
    let far = c.loop-calls.invariant.come in
    let ended = subst (λ (o : Option TimedCall). IsNone o → HasEnded c.next.new.self left left' (map plain_call c.loop-calls.calls.items)) c.in_default.is
    (c.in_ok-call.ensures.ended left (map plain_call c.loop-calls.calls.items) far.come) refl in
    all_came c.loop-calls.history c.next.new.self left (g.I.Source.remaining c.loop-calls.input) left' c.loop-calls.calls.items far ended

pub returns-in_err-call-clause-fault : goal.returns-in_err-call-clause-fault
returns-in_err-call-clause-fault g c =
    let left = g.I.Source.remaining c.args.input.now in let left' = g.I.Source.remaining c.next.new.input in
    let far = c.loop-calls.invariant.come in let error = c.in_err-call.field-0.0 in
    handed_on c.from_residual.result error (HasStoppedSomewhere left left') c.from_residual.ensures.1
    (map plain_call c.loop-calls.calls.items, c.in_err-call.ensures.stopped left (map plain_call c.loop-calls.calls.items) far.come)
