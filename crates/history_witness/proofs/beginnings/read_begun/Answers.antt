use Rattle.std.proofs.Common.{◌≡◌, false, Option, map, subst}
use Rattle.std.specs.Prelude.{IfSome}
use Rattle.history_reading.specs.CallInputs.{HasNext}
use Rattle.history_reading.specs.CallWords.{plain_call}
use Rattle.history_reading.specs.declared.words.TimedCall.{TimedCall}
use Rattle.history_witness.proofs.CallsCome.{come_first, none_came, one_came}
use Rattle.history_witness.proofs.beginnings.read_begun.Goals as goal

pub loop-calls-init : goal.loop-calls-init
loop-calls-init g c = record {
  open_input = c.requires.unread;
  come = none_came c.args.history.now (g.I.Source.remaining c.args.input.now) c.new-calls.result.items c.new-calls.ensures.items c.requires.fresh;
}

pub loop-calls-preserved : goal.loop-calls-preserved
loop-calls-preserved g c =
    let left = g.I.Source.remaining c.args.input.now in let left' = g.I.Source.remaining c.next_call.new.input in
    let calls = c.loop-calls.calls.items in
    let next = subst (λ (o : Option TimedCall). IfSome o (HasNext c.next_call.new.history left left' (map plain_call calls))) c.in-Some.is
    (c.in_ok-call.ensures.call left (map plain_call calls) c.loop-calls.invariant.come) in
    record {
      open_input = subst (λ (o : Option TimedCall). IfSome o (λ _. g.I.Source.has_failed c.next_call.new.input ≡ false)) c.in-Some.is c.in_ok-call.ensures.ok;
      come = one_came c.next_call.new.history left left' calls c.add.new.calls.items c.in-Some.call next c.in_ok-add.ensures;
    }

pub returns-then-has_ended_before : goal.returns-then-has_ended_before
returns-then-has_ended_before g c = λ text is.
    come_first c.loop-calls.history (g.I.Source.remaining c.args.input.now) (g.I.Source.remaining c.loop-calls.input) text (map plain_call c.loop-calls.calls.items) is
    c.loop-calls.invariant.come

pub returns : goal.returns
returns g c = λ text is.
    come_first c.loop-calls.history (g.I.Source.remaining c.args.input.now) (g.I.Source.remaining c.loop-calls.input) text (map plain_call c.loop-calls.calls.items) is
    c.loop-calls.invariant.come
