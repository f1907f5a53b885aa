use Rattle.std.proofs.Common.{◌∙◌, ◌<◌, ◌+◌, ◌||◌, Bool, ap, arith, drop, length, sym}
use Rattle.otherwise_report.proofs.Begun.{any_from}
use Rattle.otherwise_report.specs.Timings.{has_waiting, is_waiting}
use Rattle.otherwise_report.proofs.timing.has_waiting.Goals as goal

pub returns-then-branch : goal.returns-then-branch
returns-then-branch c =
    let x = c.args.reached.now.system.setting in
    let states = c.args.reached.now.system.states in
    let place = c.loop-place.place in
    let lt : place < length states = omega arith in
    sym (c.loop-place.invariant.left ∙ any_from (is_waiting x c.args.meshers) states place c.in_ok-is_waiting_at.field-0 lt c.in_ok-is_waiting_at.ensures
    ∙ ap (λ (b : Bool). b || has_waiting x c.args.meshers (drop (place + 1) states)) c.if-branch.true)

pub loop-place-preserved : goal.loop-place-preserved
loop-place-preserved c =
    let x = c.args.reached.now.system.setting in
    let states = c.args.reached.now.system.states in
    let place = c.loop-place.place in
    let lt : place < length states = omega arith in
    record {
      end = c.loop-place.invariant.end;
      left = c.loop-place.invariant.left ∙ any_from (is_waiting x c.args.meshers) states place c.in_ok-is_waiting_at.field-0 lt c.in_ok-is_waiting_at.ensures
          ∙ ap (λ (b : Bool). b || has_waiting x c.args.meshers (drop (place + 1) states)) c.if-branch.false;
    }
