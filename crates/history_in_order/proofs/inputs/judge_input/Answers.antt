use Rattle.std.proofs.Common.{arith}
use Rattle.history_reading.proofs.Readings.{handed_on}
use Rattle.history_in_order.specs.Checks.{HasNotJudged}
use Rattle.history_in_order.proofs.Entries.{ended_judged, fault_judged, line_of, more_taken, none_is, none_taken, some_holds, wrong_judged}
use Rattle.history_in_order.proofs.inputs.judge_input.Goals as goal

pub loop-entry-init : goal.loop-entry-init
loop-entry-init g c = record {
  open_input = c.requires.open;
  taken = none_taken c.args.history.now c.args.memory.now (g.I.Source.remaining c.args.input.now) c.requires.fresh c.requires.stands c.requires.made;
}

pub next-requires : goal.next-requires
next-requires g c = c.loop-entry.invariant.open_input

pub returns-in_err-entry-clause-fault : goal.returns-in_err-entry-clause-fault
returns-in_err-entry-clause-fault g c =
    let left = g.I.Source.remaining in
    let before = c.loop-entry.invariant.taken in
    let error = c.in_err-entry.field-0.0 in
    handed_on c.from_residual.result error (HasNotJudged (left c.args.input.now) (left c.next.new.input)) c.from_residual.ensures.1
    (fault_judged c.loop-entry.history c.loop-entry.memory _ _ _ error before (c.in_err-entry.ensures.fault (left c.args.input.now) before.entries before.come))

pub judge-requires-clause-few : goal.judge-requires-clause-few
judge-requires-clause-few g c =
    let left = g.I.Source.remaining in
    let before = c.loop-entry.invariant.taken in
    let come = some_holds _ _ _ c.in-Some.is (c.in_ok-entry.ensures.entry (left c.args.input.now) before.entries before.come) in
    let later = some_holds _ _ _ c.in-Some.is c.in_ok-entry.ensures.later in
    let line = line_of _ _ _ before.entries _ c.lines-line.result come c.lines-line.ensures (omega (arith, later, c.lines-line.ensures)) in
    omega (arith, line, before.few, c.lines-line.type_inv)

pub returns-in-Some-2-clause-judged : goal.returns-in-Some-2-clause-judged
returns-in-Some-2-clause-judged g c =
    let left = g.I.Source.remaining in
    let before = c.loop-entry.invariant.taken in
    let come = some_holds _ _ _ c.in-Some.is (c.in_ok-entry.ensures.entry (left c.args.input.now) before.entries before.come) in
    let later = some_holds _ _ _ c.in-Some.is c.in_ok-entry.ensures.later in
    let line = line_of _ _ _ before.entries _ c.lines-line.result come c.lines-line.ensures (omega (arith, later, c.lines-line.ensures)) in
    wrong_judged _ _ _ _ _ _ _ c.lines-line.result before come (some_holds _ _ _ c.in-Some-2.is c.in_ok-reason.ensures.wrong) line

pub loop-entry-smaller : goal.loop-entry-smaller
loop-entry-smaller g c =
    let later = some_holds _ _ _ c.in-Some.is c.in_ok-entry.ensures.later in
    omega (arith, later, c.lines-line.ensures, c.lines-line.type_inv)

pub loop-entry-preserved : goal.loop-entry-preserved
loop-entry-preserved g c =
    let left = g.I.Source.remaining in
    let before = c.loop-entry.invariant.taken in
    let come = some_holds _ _ _ c.in-Some.is (c.in_ok-entry.ensures.entry (left c.args.input.now) before.entries before.come) in record {
      open_input = c.in_ok-entry.ensures.ok;
      taken = more_taken _ _ _ _ _ _ _ _ before come (c.in_ok-reason.ensures.taken (none_is _ c.in_default-2.is)) c.in_ok-reason.ensures.made;
    }

-- the same where bytes of the entry are dropped, inline or allocated
pub loop-entry-preserved-in_default-2 : goal.loop-entry-preserved-in_default-2
loop-entry-preserved-in_default-2 g c =
    let left = g.I.Source.remaining in
    let before = c.loop-entry.invariant.taken in
    let come = some_holds _ _ _ c.in-Some.is (c.in_ok-entry.ensures.entry (left c.args.input.now) before.entries before.come) in record {
      open_input = c.in_ok-entry.ensures.ok;
      taken = more_taken _ _ _ _ _ _ _ _ before come (c.in_ok-reason.ensures.taken (none_is _ c.in_default-2.is)) c.in_ok-reason.ensures.made;
    }

pub loop-entry-preserved-in_default-2-2 : goal.loop-entry-preserved-in_default-2-2
loop-entry-preserved-in_default-2-2 g c =
    let left = g.I.Source.remaining in
    let before = c.loop-entry.invariant.taken in
    let come = some_holds _ _ _ c.in-Some.is (c.in_ok-entry.ensures.entry (left c.args.input.now) before.entries before.come) in record {
      open_input = c.in_ok-entry.ensures.ok;
      taken = more_taken _ _ _ _ _ _ _ _ before come (c.in_ok-reason.ensures.taken (none_is _ c.in_default-2.is)) c.in_ok-reason.ensures.made;
    }

pub overflow_sub-result : goal.overflow_sub-result
overflow_sub-result g c =
    let before = c.loop-entry.invariant.taken in
    let ends = c.in_ok-entry.ensures.ended (g.I.Source.remaining c.args.input.now) before.entries before.come (none_is _ c.in_default.is) in
    omega (arith, ends.lines, c.lines.ensures)

pub returns-clause-judged : goal.returns-clause-judged
returns-clause-judged g c =
    let before = c.loop-entry.invariant.taken in
    let ends = c.in_ok-entry.ensures.ended (g.I.Source.remaining c.args.input.now) before.entries before.come (none_is _ c.in_default.is) in
    ended_judged _ _ _ _ _ _ c.lines.result before ends c.lines.ensures
