use Rattle.std.proofs.Common.{◌≤◌, arith, length, map, subst, sym, take, List, [], ℕ}
use Rattle.history_reading.specs.CallWords.{plain_call}
use Rattle.history_object.specs.declared.faults.JudgeFault.{JudgeFault}
use Rattle.text_devices.proofs.LineSteps.{handed_on}
use Rattle.history_object.specs.ObjectBytes.{State, effect, first_state}
use Rattle.history_object.specs.OrderedJudges.{IsOrderedJudgeOf}
use Rattle.history_overlaps.specs.Accesses.{timed_accesses}
use Rattle.history_overlaps.specs.Followed.{HasStoppedAt, IsStoppedFor}
use Rattle.history_overlaps.proofs.OwnOrder.{all_followed, are_of, begins_later, begun_on, both_first, ended_refuted, ended_so_far, first_followed, found_order, is_fresh, next_access, next_below, read_at, refuted_at_last, refuted_so_far}
use Rattle.history_overlaps.proofs.own_orders.order_of.Goals as goal

pub loop-number-init : goal.loop-number-init
loop-number-init c =
    first_followed (map plain_call c.args.calls.now) c.args.made c.in_ok-judge.judge
    (subst (λ (start : State). IsOrderedJudgeOf effect start [] c.in_ok-judge.judge) c.new.ensures.first c.in_ok-judge.ensures.follows) c.in_ok-judge.ensures.some

pub bounds-calls-number : goal.bounds-calls-number
bounds-calls-number c = next_below c.args.calls.now c.args.made c.args.numbers.now c.loop-number.number-index c.requires.numbers c.loop-number-test.true

pub returns-in_err-end_before-clause-stopped : goal.returns-in_err-end_before-clause-stopped
returns-in_err-end_before-clause-stopped c =
    let calls = c.args.calls.now in let made = c.args.made in let n = c.loop-number.number-index in
    let next = next_access calls made c.args.numbers.now n c.index-calls-number.result c.requires.numbers c.loop-number-test.true c.index-calls-number.is in
    let later = begins_later calls made n _ c.index-calls-number.result c.requires.in_order next c.loop-number.judge c.loop-number.invariant in
    let from = c.from.ensures in
    handed_on c.from_residual-in_err-end_before.result c.in_err-end_before.field-0.0 (IsStoppedFor (map plain_call calls) made c.args.most)
    c.from_residual-in_err-end_before.ensures.1 (
      n,
      c.in_err-end_before.ensures.stopped made.len c.loop-number.invariant.moment _ (are_of calls made n) (omega (arith, later, from)) c.loop-number.invariant.up_to,
    )

pub returns-then-not-branch-clause-none : goal.returns-then-not-branch-clause-none
returns-then-not-branch-clause-none c =
    let calls = c.args.calls.now in let made = c.args.made in let n = c.loop-number.number-index in let call = c.index-calls-number.result in
    let next = next_access calls made c.args.numbers.now n call c.requires.numbers c.loop-number-test.true c.index-calls-number.is in
    λ _. refuted_so_far calls made n _ call c.requires.in_order next c.end_before.new.judge
    (ended_refuted calls made n _ call c.requires.in_order next c.from.result c.loop-number.judge c.end_before.new.judge c.from.ensures c.loop-number.invariant
    (c.in_ok-end_before.ensures.refuted c.if-not-branch.true))

pub access_of-requires-clause-access : goal.access_of-requires-clause-access
access_of-requires-clause-access c =
    let next = next_access c.args.calls.now c.args.made c.args.numbers.now c.loop-number.number-index c.index-calls-number.result c.requires.numbers c.loop-number-test.true
    c.index-calls-number.is in
    both_first _ _ next.accesses

pub access_of-requires-clause-effect : goal.access_of-requires-clause-effect
access_of-requires-clause-effect c =
    let next = next_access c.args.calls.now c.args.made c.args.numbers.now c.loop-number.number-index c.index-calls-number.result c.requires.numbers c.loop-number-test.true
    c.index-calls-number.is in
    let read = read_at c.args.calls.now _ c.index-calls-number.result c.requires.read next.here in read.effect

pub begin-requires : goal.begin-requires
begin-requires c =
    let calls = c.args.calls.now in let made = c.args.made in let n = c.loop-number.number-index in let call = c.index-calls-number.result in
    let next = next_access calls made c.args.numbers.now n call c.requires.numbers c.loop-number-test.true c.index-calls-number.is in
    let ended = ended_so_far calls made n _ call c.requires.in_order next c.from.result c.loop-number.judge c.end_before.new.judge c.from.ensures c.loop-number.invariant
    (c.in_ok-end_before.ensures.ended c.if-not-branch.false) in record {
      fresh = is_fresh calls made n _ call c.requires.in_order next c.end_before.new.judge call.begin ended.0;
    }

pub returns-in_err-begin-clause-stopped : goal.returns-in_err-begin-clause-stopped
returns-in_err-begin-clause-stopped c =
    let calls = c.args.calls.now in let made = c.args.made in let n = c.loop-number.number-index in let call = c.index-calls-number.result in
    let next = next_access calls made c.args.numbers.now n call c.requires.numbers c.loop-number-test.true c.index-calls-number.is in
    let ended = ended_so_far calls made n _ call c.requires.in_order next c.from.result c.loop-number.judge c.end_before.new.judge c.from.ensures c.loop-number.invariant
    (c.in_ok-end_before.ensures.ended c.if-not-branch.false) in
    let up_to = ended.0 in
    handed_on c.from_residual-in_err-begin.result c.in_err-begin.field-0.0 (IsStoppedFor (map plain_call calls) made c.args.most)
    c.from_residual-in_err-begin.ensures.1 (
      n,
      subst (λ (fault : JudgeFault). HasStoppedAt made.len (take n (timed_accesses made.cell made.address (map plain_call calls))) c.args.most fault) (sym c.in_err-begin.ensures.full)
          (c.end_before.new.judge.judge, up_to.follows.follows, c.in_err-begin.ensures.taken),
    )

pub loop-number-preserved : goal.loop-number-preserved
loop-number-preserved c =
    let calls = c.args.calls.now in let made = c.args.made in let n = c.loop-number.number-index in let call = c.index-calls-number.result in
    let next = next_access calls made c.args.numbers.now n call c.requires.numbers c.loop-number-test.true c.index-calls-number.is in
    let ended = ended_so_far calls made n _ call c.requires.in_order next c.from.result c.loop-number.judge c.end_before.new.judge c.from.ensures c.loop-number.invariant
    (c.in_ok-end_before.ensures.ended c.if-not-branch.false) in
    begun_on calls made n _ call c.requires.in_order next c.in_ok-access.access c.end_before.new.judge c.begin.new.self
    (read_at calls _ call c.requires.read next.here) c.in_ok-access.ensures ended.0 ended.1
    (c.in_ok-begin.ensures.follows (first_state made.len)) c.in_ok-begin.ensures.open c.in_ok-begin.ensures.some

pub returns-in_err-end_before-2-clause-stopped : goal.returns-in_err-end_before-2-clause-stopped
returns-in_err-end_before-2-clause-stopped c =
    let calls = c.args.calls.now in let made = c.args.made in let n = c.loop-number.number-index in
    handed_on c.from_residual-in_err-end_before-2.result c.in_err-end_before-2.field-0.0 (IsStoppedFor (map plain_call calls) made c.args.most)
    c.from_residual-in_err-end_before-2.ensures.1 (
      n,
      c.in_err-end_before-2.ensures.stopped made.len c.loop-number.invariant.moment _ (are_of calls made n) c.loop-number.invariant.early c.loop-number.invariant.up_to,
    )

pub returns-then-not-branch-2-clause-none : goal.returns-then-not-branch-2-clause-none
returns-then-not-branch-2-clause-none c =
    let calls = c.args.calls.now in let made = c.args.made in let n = c.loop-number.number-index in
    let all = subst (λ (numbers : List ℕ). length numbers ≤ n) c.requires.numbers c.loop-number-test.false in
    λ _. refuted_at_last calls made n all c.end_before-2.new.judge
    (c.in_ok-end_before-2.ensures.refuted c.if-not-branch-2.true made.len c.loop-number.invariant.moment _ (are_of calls made n) c.loop-number.invariant.early
    c.loop-number.invariant.up_to)

pub returns-clause-order : goal.returns-clause-order
returns-clause-order c =
    let calls = c.args.calls.now in let made = c.args.made in let n = c.loop-number.number-index in
    let all = subst (λ (numbers : List ℕ). length numbers ≤ n) c.requires.numbers c.loop-number-test.false in
    let ended = c.in_ok-end_before-2.ensures.ended c.if-not-branch-2.false made.len c.loop-number.invariant.moment _ (are_of calls made n) c.loop-number.invariant.early
    c.loop-number.invariant.up_to in
    found_order calls made n all c.end_before-2.new.judge c.in_ok-order.order c.requires.read ended.0 ended.1 c.in_ok-order.ensures.some

pub returns-clause-none : goal.returns-clause-none
returns-clause-none c =
    let calls = c.args.calls.now in let made = c.args.made in let n = c.loop-number.number-index in
    let all = subst (λ (numbers : List ℕ). length numbers ≤ n) c.requires.numbers c.loop-number-test.false in
    let ended = c.in_ok-end_before-2.ensures.ended c.if-not-branch-2.false made.len c.loop-number.invariant.moment _ (are_of calls made n) c.loop-number.invariant.early
    c.loop-number.invariant.up_to in
    let up_to = ended.0 in
    λ none order explains. c.in_ok-order.ensures.none none (first_state made.len) (timed_accesses made.cell made.address (map plain_call calls))
    (all_followed calls made n all c.end_before-2.new.judge up_to) up_to.some
