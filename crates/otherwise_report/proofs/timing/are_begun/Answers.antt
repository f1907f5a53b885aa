use Rattle.std.proofs.Common.{◌∙◌, ◌<◌, ◌+◌, ◌||◌, Bool, ap, arith, drop, is_some, length, sym}
use Rattle.otherwise_report.proofs.Begun.{any_from}
use Rattle.otherwise_report.specs.Timings.{are_begun}
use Rattle.otherwise_report.proofs.timing.are_begun.Goals as goal

pub returns-then-is_begun_at : goal.returns-then-is_begun_at
returns-then-is_begun_at c =
    let states = c.args.reached.now.system.states in
    let place = c.loop-place.place in
    let lt : place < length states = omega arith in
    sym (c.loop-place.invariant.left ∙ any_from (λ s. is_some s.heap.flight) states place c.is_begun_at.result lt c.is_begun_at.ensures
    ∙ ap (λ (b : Bool). b || are_begun (drop (place + 1) states)) c.if-is_begun_at.true)

pub loop-place-preserved : goal.loop-place-preserved
loop-place-preserved c =
    let states = c.args.reached.now.system.states in
    let place = c.loop-place.place in
    let lt : place < length states = omega arith in
    record {
      end = c.loop-place.invariant.end;
      left = c.loop-place.invariant.left ∙ any_from (λ s. is_some s.heap.flight) states place c.is_begun_at.result lt c.is_begun_at.ensures
          ∙ ap (λ (b : Bool). b || are_begun (drop (place + 1) states)) c.if-is_begun_at.false;
    }
