use Rattle.std.proofs.Common.{Option, ap, refl, subst}
use Rattle.std.specs.Ordering.{nat_cmp}
use Rattle.std.specs.BTreeMap.{get}
use Rattle.std.specs.Prelude.{IfSome, IsNone}
use Rattle.history_overlaps.specs.Ends.{HasEndedIn, IsGone, IsToldIn}
use Rattle.history_overlaps.specs.LifeSteps.{is_explained}
use Rattle.history_overlaps.specs.Standing.{lives_of}
use Rattle.history_overlaps.specs.declared.life.AccessEnd.{AccessEnd}
use Rattle.history_overlaps.proofs.EndSteps.{access_ended_so, access_few, access_gone, access_unexplained}
use Rattle.history_overlaps.specs.Stops.{IsStoppedEnd}
use Rattle.history_overlaps.specs.declared.pending.Pending.TheVariants.{Access}
use Rattle.history_overlaps.proofs.Stopped.{access_end_stopped}
use Rattle.text_devices.proofs.LineSteps.{handed_on}
use Rattle.history_overlaps.proofs.timeline.Timeline.access_ended.Goals as goal

pub returns-in-Some-Explained-clause-ended : goal.returns-in-Some-Explained-clause-ended
returns-in-Some-Explained-clause-ended c = λ none.
    let h = subst (λ (o : Option AccessEnd). IfSome o (λ end. HasEndedIn (lives_of c.args.self.now) (get nat_cmp c.end_in.new.lives) c.args.cell c.args.number (is_explained end))) c.in-Some-Explained.is c.in_ok-end_in.ensures.ended in
    access_ended_so c.args.self.now c.args.number c.args.cell (get nat_cmp c.end_in.new.lives) (is_explained c.in-Some-Explained.field-0) h (ap is_explained c.in-Some-Explained.field-0-is)

pub returns-in-Some-Explained-clause-few : goal.returns-in-Some-Explained-clause-few
returns-in-Some-Explained-clause-few c = λ none.
    let h = subst (λ (o : Option AccessEnd). IfSome o (λ end. HasEndedIn (lives_of c.args.self.now) (get nat_cmp c.end_in.new.lives) c.args.cell c.args.number (is_explained end))) c.in-Some-Explained.is c.in_ok-end_in.ensures.ended in
    access_few c.args.self.now c.args.number c.args.cell (get nat_cmp c.end_in.new.lives) (is_explained c.in-Some-Explained.field-0) h

pub returns-in-Some-Unexplained-clause-flawed : goal.returns-in-Some-Unexplained-clause-flawed
returns-in-Some-Unexplained-clause-flawed c =
    let h = subst (λ (o : Option AccessEnd). IfSome o (λ end. HasEndedIn (lives_of c.args.self.now) (get nat_cmp c.end_in.new.lives) c.args.cell c.args.number (is_explained end))) c.in-Some-Unexplained.is c.in_ok-end_in.ensures.ended in
    access_unexplained c.args.self.now c.args.number c.args.cell (get nat_cmp c.end_in.new.lives) (is_explained c.in-Some-Unexplained.field-0) h (ap is_explained c.in-Some-Unexplained.field-0-is) c.in-Some-Unexplained.answer
    (subst (λ (e : AccessEnd). IsToldIn (lives_of c.args.self.now) c.args.cell c.args.number e) c.in-Some-Unexplained.field-0-is
    (subst (λ (o : Option AccessEnd). IfSome o (IsToldIn (lives_of c.args.self.now) c.args.cell c.args.number)) c.in-Some-Unexplained.is c.in_ok-end_in.ensures.told))

pub unreachable-requires : goal.unreachable-requires
unreachable-requires c = access_gone c.args.self.now c.args.number c.args.cell c.requires
    (subst (λ (o : Option AccessEnd). IsNone o → IsGone (lives_of c.args.self.now) c.args.cell c.args.number) c.in-None.is c.in_ok-end_in.ensures.none refl)

pub returns-in_err-end_in-clause-stopped : goal.returns-in_err-end_in-clause-stopped
returns-in_err-end_in-clause-stopped c =
    let fault = c.in_err-end_in.field-0.0 in
    handed_on c.from_residual.result fault (IsStoppedEnd c.args.self.now c.args.number (Access c.args.cell) c.args.most) c.from_residual.ensures.1
    (access_end_stopped c.args.self.now c.args.number c.args.cell c.args.most fault c.in_err-end_in.ensures.stopped)
