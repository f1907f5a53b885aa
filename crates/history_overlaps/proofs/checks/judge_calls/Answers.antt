use Rattle.std.proofs.Common.{◌≡◌, ℕ, ◌+◌, ◌-◌, ◌^◌, ◌<◌, true, ◌++◌, ◌∷◌, [], List, Option, None, Result, Ok, arith, refl, subst, length}
use Rattle.std.specs.Prelude.{IfOk, IfSome, IsNone}
use Rattle.model_intervals.specs.Completions.{EndsInTime, HasCompletion}
use Rattle.model_intervals.specs.Intervals.{Call, IsLinearizable}
use Rattle.std.proofs.lemmas.Result.{IfErr-weaker}
use Rattle.model_intervals.specs.OverlappingCalls.{IsHistory}
use Rattle.history_reading.specs.CallInputs.{HasEnded, HasNext}
use Rattle.history_reading.specs.CallReadings.{is_in_order}
use Rattle.history_reading.specs.CallWords.{plain_call}
use Rattle.history_reading.specs.declared.words.TimedCall.{TimedCall}
use Rattle.history_reading.proofs.Readings.{handed_on}
use Rattle.history_overlaps.specs.Checks.{HasNotJudged, IsJudgedAtEnd, IsJudgedBefore, IsKept, IsTold}
use Rattle.history_overlaps.specs.Standing.{lives_of}
use Rattle.history_overlaps.specs.Timelines.{FewOpen}
use Rattle.history_overlaps.specs.Stops.{StopsAt, StopsEnd}
use Rattle.history_overlaps.specs.declared.stops.Stop.{Stop}
use Rattle.history_overlaps.specs.declared.verdicts.CallVerdict.{CallVerdict}
use Rattle.history_overlaps.proofs.CheckSteps.{judged_at_end, judged_before, judged_by, none_hidden, not_judged}
use Rattle.history_overlaps.proofs.UndecidedTexts.{stop_below, undecided_at_end, undecided_before}
use Rattle.history_overlaps.proofs.checks.judge_calls.Goals as goal

pub returns-in_err-call-clause-fault : goal.returns-in_err-call-clause-fault
returns-in_err-call-clause-fault g c =
    let left = g.I.Source.remaining c.args.input.now in let left' = g.I.Source.remaining c.next.new.input in
    let taken = c.loop-call.invariant.taken in let error = c.in_err-call.field-0.0 in
    handed_on c.from_residual.result error (HasNotJudged left left') c.from_residual.ensures.1
    (not_judged left left' taken.calls error (none_hidden c.loop-call.timeline taken.calls taken.kept) (c.in_err-call.ensures.stopped left taken.calls taken.come))

pub overflow_sub-number : goal.overflow_sub-number
overflow_sub-number g c =
    let taken = c.loop-call.invariant.taken in
    let next = subst (λ (o : Option TimedCall). IfSome o (HasNext c.next.new.self (g.I.Source.remaining c.args.input.now) (g.I.Source.remaining c.next.new.input) taken.calls)) c.in-Some.is
    (c.in_ok-call.ensures.call (g.I.Source.remaining c.args.input.now) taken.calls taken.come) in
    let line = next.line in let is = c.lines-number.ensures in omega (arith, line, is)

pub take-requires-clause-few : goal.take-requires-clause-few
take-requires-clause-few g c =
    let taken = c.loop-call.invariant.taken in
    let next = subst (λ (o : Option TimedCall). IfSome o (HasNext c.next.new.self (g.I.Source.remaining c.args.input.now) (g.I.Source.remaining c.next.new.input) taken.calls)) c.in-Some.is
    (c.in_ok-call.ensures.call (g.I.Source.remaining c.args.input.now) taken.calls taken.come) in
    let line = next.line in let is = c.lines-number.ensures in
    subst (λ (n : ℕ). FewOpen (lives_of c.loop-call.timeline) n) (omega (arith, line, is)) taken.kept.few

pub take-requires-clause-lines : goal.take-requires-clause-lines
take-requires-clause-lines g c =
    let left = g.I.Source.remaining c.args.input.now in let left' = g.I.Source.remaining c.next.new.input in
    let taken = c.loop-call.invariant.taken in
    let next = subst (λ (o : Option TimedCall). IfSome o (HasNext c.next.new.self left left' taken.calls)) c.in-Some.is (c.in_ok-call.ensures.call left taken.calls taken.come) in
    let line = next.line in let is = c.lines-number.ensures in
    let fits = c.lines-number.type_inv in omega (arith, line, is, fits)

pub take-requires-clause-kept : goal.take-requires-clause-kept
take-requires-clause-kept g c =
    let left = g.I.Source.remaining c.args.input.now in let left' = g.I.Source.remaining c.next.new.input in
    let taken = c.loop-call.invariant.taken in
    let next = subst (λ (o : Option TimedCall). IfSome o (HasNext c.next.new.self left left' taken.calls)) c.in-Some.is (c.in_ok-call.ensures.call left taken.calls taken.come) in
    let line = next.line in let is = c.lines-number.ensures in
    (taken.calls, omega (arith, line, is), taken.kept, next.in_order)

pub decided-requires : goal.decided-requires
decided-requires g c =
    let left = g.I.Source.remaining c.args.input.now in let left' = g.I.Source.remaining c.next.new.input in
    let taken = c.loop-call.invariant.taken in
    let next = subst (λ (o : Option TimedCall). IfSome o (HasNext c.next.new.self left left' taken.calls)) c.in-Some.is (c.in_ok-call.ensures.call left taken.calls taken.come) in
    let line = next.line in let is = c.lines-number.ensures in let fits = c.lines-number.type_inv in
    IfErr-weaker c.take.result
    (λ stop. (calls : List Call) → length calls ≡ c.lines-number.result - 2 → IsKept c.loop-call.timeline calls → is_in_order calls (plain_call c.in-Some.call) ≡ true
    → StopsAt calls (plain_call c.in-Some.call) c.args.most stop)
    (λ stop. stop.number + 2 < 2 ^ 32)
    (λ stop stops.
    let below = stop_below taken.calls (plain_call c.in-Some.call) c.args.most stop (stops taken.calls (omega (arith, line, is)) taken.kept next.in_order) in
    omega (arith, line, is, fits, below))
    c.take.ensures.stopped

pub returns-in-Some-2-clause-judged : goal.returns-in-Some-2-clause-judged
returns-in-Some-2-clause-judged g c =
    let left = g.I.Source.remaining c.args.input.now in let left' = g.I.Source.remaining c.next.new.input in
    let taken = c.loop-call.invariant.taken in
    let next = subst (λ (o : Option TimedCall). IfSome o (HasNext c.next.new.self left left' taken.calls)) c.in-Some.is (c.in_ok-call.ensures.call left taken.calls taken.come) in
    let line = next.line in let is = c.lines-number.ensures in
    let told = subst (λ (o : Option CallVerdict). IfSome o (IsTold c.take.result)) c.in-Some-2.is c.in_ok-verdict.ensures.told in
    judged_by c.args.most left left' c.take.result
    (λ verdict. (calls : List Call) → length calls ≡ c.lines-number.result - 2 → IsKept c.loop-call.timeline calls → is_in_order calls (plain_call c.in-Some.call) ≡ true
    → IsJudgedBefore calls (plain_call c.in-Some.call) verdict)
    (λ stop. (calls : List Call) → length calls ≡ c.lines-number.result - 2 → IsKept c.loop-call.timeline calls → is_in_order calls (plain_call c.in-Some.call) ≡ true
    → StopsAt calls (plain_call c.in-Some.call) c.args.most stop)
    c.take.ensures.judged c.take.ensures.stopped
    (λ verdict judged. judged_before c.next.new.self left left' taken.calls (plain_call c.in-Some.call) next.come c.args.most verdict
    (judged taken.calls (omega (arith, line, is)) taken.kept next.in_order))
    (λ stop at fault in_line same other stops. undecided_before c.next.new.self left left' taken.calls (plain_call c.in-Some.call) next.come c.args.most stop at fault in_line
    same other (stops taken.calls (omega (arith, line, is)) taken.kept next.in_order))
    c.in-Some-2.verdict told

pub loop-call-preserved : goal.loop-call-preserved
loop-call-preserved g c =
    let left = g.I.Source.remaining c.args.input.now in let left' = g.I.Source.remaining c.next.new.input in
    let taken = c.loop-call.invariant.taken in
    let next = subst (λ (o : Option TimedCall). IfSome o (HasNext c.next.new.self left left' taken.calls)) c.in-Some.is (c.in_ok-call.ensures.call left taken.calls taken.come) in
    let line = next.line in let is = c.lines-number.ensures in
    let none = subst (λ (o : Option CallVerdict). IsNone o → c.take.result ≡ Ok None) c.in_default-2.is c.in_ok-verdict.ensures.none refl in
    let on = subst (λ (r : Result (Option CallVerdict) Stop). IfOk r (λ found. IsNone found → (calls : List Call) → length calls ≡ c.lines-number.result - 2 → IsKept c.loop-call.timeline calls
    → is_in_order calls (plain_call c.in-Some.call) ≡ true → IsKept c.take.new.self (calls ++ plain_call c.in-Some.call ∷ []))) none c.take.ensures.taken in
    record {
      open_input = c.in_ok-call.ensures.ok;
      taken = record {
        calls = taken.calls ++ plain_call c.in-Some.call ∷ [];
        come = next.come;
        kept = on refl taken.calls (omega (arith, line, is)) taken.kept next.in_order;
      };
    }

-- the same where bytes of the call are dropped, inline or allocated
pub loop-call-preserved-in_default-2 : goal.loop-call-preserved-in_default-2
loop-call-preserved-in_default-2 g c =
    let left = g.I.Source.remaining c.args.input.now in let left' = g.I.Source.remaining c.next.new.input in
    let taken = c.loop-call.invariant.taken in
    let next = subst (λ (o : Option TimedCall). IfSome o (HasNext c.next.new.self left left' taken.calls)) c.in-Some.is (c.in_ok-call.ensures.call left taken.calls taken.come) in
    let line = next.line in let is = c.lines-number.ensures in
    let none = subst (λ (o : Option CallVerdict). IsNone o → c.take.result ≡ Ok None) c.in_default-2.is c.in_ok-verdict.ensures.none refl in
    let on = subst (λ (r : Result (Option CallVerdict) Stop). IfOk r (λ found. IsNone found → (calls : List Call) → length calls ≡ c.lines-number.result - 2 → IsKept c.loop-call.timeline calls
    → is_in_order calls (plain_call c.in-Some.call) ≡ true → IsKept c.take.new.self (calls ++ plain_call c.in-Some.call ∷ []))) none c.take.ensures.taken in
    record {
      open_input = c.in_ok-call.ensures.ok;
      taken = record {
        calls = taken.calls ++ plain_call c.in-Some.call ∷ [];
        come = next.come;
        kept = on refl taken.calls (omega (arith, line, is)) taken.kept next.in_order;
      };
    }

pub loop-call-preserved-in_default-2-2 : goal.loop-call-preserved-in_default-2-2
loop-call-preserved-in_default-2-2 g c =
    let left = g.I.Source.remaining c.args.input.now in let left' = g.I.Source.remaining c.next.new.input in
    let taken = c.loop-call.invariant.taken in
    let next = subst (λ (o : Option TimedCall). IfSome o (HasNext c.next.new.self left left' taken.calls)) c.in-Some.is (c.in_ok-call.ensures.call left taken.calls taken.come) in
    let line = next.line in let is = c.lines-number.ensures in
    let none = subst (λ (o : Option CallVerdict). IsNone o → c.take.result ≡ Ok None) c.in_default-2.is c.in_ok-verdict.ensures.none refl in
    let on = subst (λ (r : Result (Option CallVerdict) Stop). IfOk r (λ found. IsNone found → (calls : List Call) → length calls ≡ c.lines-number.result - 2 → IsKept c.loop-call.timeline calls
    → is_in_order calls (plain_call c.in-Some.call) ≡ true → IsKept c.take.new.self (calls ++ plain_call c.in-Some.call ∷ []))) none c.take.ensures.taken in
    record {
      open_input = c.in_ok-call.ensures.ok;
      taken = record {
        calls = taken.calls ++ plain_call c.in-Some.call ∷ [];
        come = next.come;
        kept = on refl taken.calls (omega (arith, line, is)) taken.kept next.in_order;
      };
    }

pub overflow_sub-count : goal.overflow_sub-count
overflow_sub-count g c =
    let left = g.I.Source.remaining c.args.input.now in let left' = g.I.Source.remaining c.next.new.input in
    let taken = c.loop-call.invariant.taken in
    let ended = subst (λ (o : Option TimedCall). IsNone o → HasEnded c.next.new.self left left' taken.calls) c.in_default.is (c.in_ok-call.ensures.ended left taken.calls taken.come) refl in
    let lines = ended.lines in let is = c.lines-count.ensures in omega (arith, lines, is)

pub finish-requires-clause-lines : goal.finish-requires-clause-lines
finish-requires-clause-lines g c =
    let left = g.I.Source.remaining c.args.input.now in let left' = g.I.Source.remaining c.next.new.input in
    let taken = c.loop-call.invariant.taken in
    let ended = subst (λ (o : Option TimedCall). IsNone o → HasEnded c.next.new.self left left' taken.calls) c.in_default.is (c.in_ok-call.ensures.ended left taken.calls taken.come) refl in
    let lines = ended.lines in let is = c.lines-count.ensures in
    let fits = c.lines-count.type_inv in omega (arith, lines, is, fits)

pub finish-requires-clause-kept : goal.finish-requires-clause-kept
finish-requires-clause-kept g c =
    let left = g.I.Source.remaining c.args.input.now in let left' = g.I.Source.remaining c.next.new.input in
    let taken = c.loop-call.invariant.taken in
    let ended = subst (λ (o : Option TimedCall). IsNone o → HasEnded c.next.new.self left left' taken.calls) c.in_default.is (c.in_ok-call.ensures.ended left taken.calls taken.come) refl in
    let lines = ended.lines in let is = c.lines-count.ensures in
    (taken.calls, omega (arith, lines, is), taken.kept)

pub decided-requires-2 : goal.decided-requires-2
decided-requires-2 g c =
    let left = g.I.Source.remaining c.args.input.now in let left' = g.I.Source.remaining c.next.new.input in
    let taken = c.loop-call.invariant.taken in
    let ended = subst (λ (o : Option TimedCall). IsNone o → HasEnded c.next.new.self left left' taken.calls) c.in_default.is (c.in_ok-call.ensures.ended left taken.calls taken.come) refl in
    let lines = ended.lines in let is = c.lines-count.ensures in let fits = c.lines-count.type_inv in
    IfErr-weaker c.finish.result
    (λ stop. (calls : List Call) → IsKept c.loop-call.timeline calls → (stop.number < length calls) × StopsEnd calls stop.number c.args.most stop.fault)
    (λ stop. stop.number + 2 < 2 ^ 32)
    (λ stop stops. let below = (stops taken.calls taken.kept).0 in omega (arith, lines, is, fits, below)) c.finish.ensures.stopped

pub returns-in-Some-3-clause-judged : goal.returns-in-Some-3-clause-judged
returns-in-Some-3-clause-judged g c =
    let left = g.I.Source.remaining c.args.input.now in let left' = g.I.Source.remaining c.next.new.input in
    let taken = c.loop-call.invariant.taken in
    let ended = subst (λ (o : Option TimedCall). IsNone o → HasEnded c.next.new.self left left' taken.calls) c.in_default.is (c.in_ok-call.ensures.ended left taken.calls taken.come) refl in
    let told = subst (λ (o : Option CallVerdict). IfSome o (IsTold c.finish.result)) c.in-Some-3.is c.in_ok-verdict-2.ensures.told in
    judged_by c.args.most left left' c.finish.result (λ verdict. (calls : List Call) → IsKept c.loop-call.timeline calls → IsJudgedAtEnd calls verdict)
    (λ stop. (calls : List Call) → IsKept c.loop-call.timeline calls → (stop.number < length calls) × StopsEnd calls stop.number c.args.most stop.fault)
    c.finish.ensures.judged c.finish.ensures.stopped
    (λ verdict judged. judged_at_end left left' ended.text taken.calls ended.taken ended.at_end ended.is c.args.most verdict (judged taken.calls taken.kept))
    (λ stop at fault in_line same other stops. undecided_at_end left left' ended.text taken.calls ended.taken ended.at_end ended.is c.args.most stop at fault in_line same other
    (stops taken.calls taken.kept).1)
    c.in-Some-3.verdict told

pub returns-clause-judged : goal.returns-clause-judged
returns-clause-judged g c =
    let left = g.I.Source.remaining c.args.input.now in let left' = g.I.Source.remaining c.next.new.input in
    let taken = c.loop-call.invariant.taken in
    let ended = subst (λ (o : Option TimedCall). IsNone o → HasEnded c.next.new.self left left' taken.calls) c.in_default.is (c.in_ok-call.ensures.ended left taken.calls taken.come) refl in
    let lines = ended.lines in let is = c.lines-count.ensures in
    let none = subst (λ (o : Option CallVerdict). IsNone o → c.finish.result ≡ Ok None) c.in_default-3.is c.in_ok-verdict-2.ensures.none refl in
    let linear = subst (λ (r : Result (Option CallVerdict) Stop). IfOk r (λ found. IsNone found → (calls : List Call) → IsKept c.loop-call.timeline calls → IsHistory calls × HasCompletion calls (EndsInTime calls)))
    none c.finish.ensures.linearizable in
    let both = linear refl taken.calls taken.kept in (
      ended.text,
      ended.taken,
      ended.at_end,
      record {
        calls = taken.calls;
        reading = ended.is;
        many = omega (arith, lines, is);
        history = both.0;
        completed = both.1;
      },
    )
