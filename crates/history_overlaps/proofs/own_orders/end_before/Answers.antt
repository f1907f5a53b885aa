use Rattle.std.proofs.Common.{◌<◌, arith, ap, subst, sym, List, Option, Some, None, Err, ℕ}
use Rattle.history_object.specs.declared.faults.JudgeFault.{JudgeFault}
use Rattle.history_object.specs.ObjectBytes.{first_state}
use Rattle.history_overlaps.specs.Followed.{IsFirstOf}
use Rattle.text_devices.proofs.LineSteps.{handed_on}
use Rattle.history_overlaps.proofs.EndBefore.{ended_first, not_both, open_from_first, open_from_none, refuted_first, stopped_at_end}
use Rattle.history_overlaps.proofs.OpenCalls.{open_count, fewer_open}
use Rattle.history_overlaps.proofs.own_orders.end_before.Goals as goal

pub returns-then-end_of-moment-clause-ended : goal.returns-then-end_of-moment-clause-ended
returns-then-end_of-moment-clause-ended c = λ _ len earlier timeds are le up_to. (
  c.loop-number.invariant len earlier timeds are le up_to,
  open_from_first c.args.calls.now timeds c.args.moment c.in-Some.number c.loop-number.judge.judge are
      (subst (λ (numbers : List (Option ℕ)). IsFirstOf c.args.calls.now numbers (Some c.in-Some.number)) c.numbers.ensures c.in-Some.ensures)
      (let end = c.end_of.ensures in let late = c.if-end_of-moment.true in omega (arith, end, late)),
)

pub returns-in_err-end-clause-stopped : goal.returns-in_err-end-clause-stopped
returns-in_err-end-clause-stopped c =
    let fault = c.in_err-end.field-0.0 in
    handed_on c.from_residual.result fault _ c.from_residual.ensures.1
    (λ len earlier timeds are le up_to.
    stopped_at_end len timeds c.args.moment c.args.most c.in-Some.number fault c.loop-number.judge (c.loop-number.invariant len earlier timeds are le up_to)
    (λ is. c.in_err-end.ensures.many (ap (λ (e : JudgeFault). Err e) is)) (λ is. c.in_err-end.ensures.not_full (ap (λ (e : JudgeFault). Err e) is)))

pub returns-then-not-branch-clause-refuted : goal.returns-then-not-branch-clause-refuted
returns-then-not-branch-clause-refuted c = λ _ len earlier timeds are le up_to.
    refuted_first c.args.calls.now len timeds c.args.moment c.in-Some.number c.loop-number.judge c.end.new.self are
    (let end = c.end_of.ensures in let early = c.if-end_of-moment.false in omega (arith, end, early))
    c.in_ok-end.ensures.open (c.in_ok-end.ensures.follows (first_state len) timeds) (c.loop-number.invariant len earlier timeds are le up_to)
    (λ some. not_both c.in_ok-end.field-0 (c.in_ok-end.ensures.left.1 some) c.if-not-branch.true)

pub loop-number-smaller : goal.loop-number-smaller
loop-number-smaller c =
    let closed = c.in_ok-end.ensures.closed in
    subst (λ (numbers : List (Option ℕ)). open_count numbers < open_count c.loop-number.judge.judge.numbers) (sym closed.2)
    (fewer_open c.loop-number.judge.judge.numbers closed.0 c.in-Some.number closed.1)

pub loop-number-preserved : goal.loop-number-preserved
loop-number-preserved c = λ len earlier timeds are le up_to.
    ended_first c.args.calls.now len timeds c.args.moment c.in-Some.number c.loop-number.judge c.end.new.self are
    (let end = c.end_of.ensures in let early = c.if-end_of-moment.false in omega (arith, end, early))
    c.in_ok-end.ensures.open (c.in_ok-end.ensures.follows (first_state len) timeds) (c.loop-number.invariant len earlier timeds are le up_to)
    (c.in_ok-end.ensures.left.0 c.if-not-branch.false)

pub returns-clause-ended : goal.returns-clause-ended
returns-clause-ended c = λ _ len earlier timeds are le up_to. (
  c.loop-number.invariant len earlier timeds are le up_to,
  open_from_none c.args.calls.now timeds c.args.moment c.loop-number.judge.judge
      (subst (λ (numbers : List (Option ℕ)). IsFirstOf c.args.calls.now numbers None) c.numbers.ensures c.in_default.ensures),
)
