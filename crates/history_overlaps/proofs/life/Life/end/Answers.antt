use Rattle.std.proofs.Common.{Err, ap, refl}
use Rattle.history_object.specs.ObjectBytes.{first_state}
use Rattle.history_object.specs.declared.faults.JudgeFault.{JudgeFault}
use Rattle.history_overlaps.specs.Stops.{CannotEnd}
use Rattle.history_overlaps.proofs.Stopped.{cannot_end}
use Rattle.text_devices.proofs.LineSteps.{handed_on}
use Rattle.history_overlaps.proofs.UnexplainedCalls.{told_at_end}
use Rattle.history_overlaps.proofs.life.Life.end.Goals as goal

pub returns-in_ok-unexplained-in-Some-2-clause-ended : goal.returns-in_ok-unexplained-in-Some-2-clause-ended
returns-in_ok-unexplained-in-Some-2-clause-ended c = record {
  first = c.in-Some.judge;
  is_first = c.in-Some.is;
  was_open = c.is_open.ensures.0 (let on = c.if-not-is_open.false in cc on);
  judge = c.end.new.self;
  now = refl;
  follows = c.in_ok-end.ensures.follows (first_state c.args.self.now.object.len);
  is_open = c.in_ok-end.ensures.open;
  some = (λ yes. cc yes, λ has. let none = c.in_ok-end.ensures.some.1 has in let is = c.in-Some-2.is in cc (none, is));
  is_call = c.in_ok-end.ensures.calls;
}

pub returns-in_err-end-clause-stopped : goal.returns-in_err-end-clause-stopped
returns-in_err-end-clause-stopped c =
    let fault = c.in_err-end.field-0.0 in
    handed_on c.from_residual.result fault (CannotEnd c.args.self.now c.args.number c.args.most) c.from_residual.ensures.1
    (cannot_end c.args.self.now c.in-Some.judge c.args.number c.args.most fault c.in-Some.is (λ is. c.in_err-end.ensures.many (ap (λ (e : JudgeFault). Err e) is))
    (λ is. c.in_err-end.ensures.not_full (ap (λ (e : JudgeFault). Err e) is)))

pub returns-in_ok-unexplained-in-Some-2-clause-told : goal.returns-in_ok-unexplained-in-Some-2-clause-told
returns-in_ok-unexplained-in-Some-2-clause-told c =
    told_at_end c.args.self.now c.in-Some.judge c.args.number _ c.in-Some-2.refutation c.in_ok-unexplained-in-Some-2.unexplained c.in-Some.is c.in-Some-2.is c.in_ok-end.ensures.refuted
    c.in_ok-unexplained-in-Some-2.ensures.by c.in_ok-unexplained-in-Some-2.ensures.object
