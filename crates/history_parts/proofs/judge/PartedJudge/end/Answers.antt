use Rattle.std.proofs.Common.{◌≢◌, ◌↔◌, inl, inr, ℕ, Err, ap, subst}
use Rattle.std.specs.Option.{IfSome}
use Rattle.history_object.specs.declared.access.Access.{Access}
use Rattle.history_object.specs.Following.{IsCallOf, IsOpen, TimedStanding}
use Rattle.history_object.specs.ObjectBytes.{State, effect}
use Rattle.history_object.proofs.Found.{returned}
use Rattle.history_object.proofs.Followed.{IsFollowedToEnd}
use Rattle.history_parts.specs.Parts.{HasMoreBeside, HasMoreJoined, IsRefutedBeside, whole}
use Rattle.history_parts.proofs.Whole.{end_aside, end_calls, end_follows, end_free, end_open, end_refuted, end_some, more_beside}
use Rattle.history_parts.proofs.judge.PartedJudge.end.Goals as goal

pub set_aside-requires-clause-aside : goal.set_aside-requires-clause-aside
set_aside-requires-clause-aside c =
    end_aside c.args.number c.self.inside.judge c.join.new.judge c.end.new.self c.end.new.self c.self.inside.parts.items c.join.new.parts.items c.join.new.parts.items
    c.in_ok-join.ensures.same c.in_ok-join.ensures.aside c.in_ok-join.ensures.free c.in_ok-ended.ensures.place

pub returns-clause-follows : goal.returns-clause-follows
returns-clause-follows c =
    subst (λ (j : TimedStanding State Access). IsFollowedToEnd effect j (whole c.set_aside.new.judge c.set_aside.new.parts.items)) c.self.view_is
    (end_follows c.args.number c.self.inside.judge c.join.new.judge c.end.new.self c.set_aside.new.judge c.self.inside.parts.items c.join.new.parts.items
    c.set_aside.new.parts.items c.in_ok-join.ensures.same c.in_ok-join.ensures.aside c.in_ok-join.ensures.free c.in_ok-ended.ensures.place c.in_ok-set_aside.ensures.same)

pub returns-clause-open : goal.returns-clause-open
returns-clause-open c =
    subst (λ (j : TimedStanding State Access). (n : ℕ) → IsOpen c.set_aside.new.judge n ↔ (IsOpen j n × (n ≢ c.args.number))) c.self.view_is
    (end_open c.args.number c.self.inside.judge c.join.new.judge c.end.new.self c.set_aside.new.judge c.self.inside.parts.items c.join.new.parts.items
    c.set_aside.new.parts.items c.in_ok-join.ensures.same c.in_ok-join.ensures.aside c.in_ok-join.ensures.free c.in_ok-ended.ensures.place c.in_ok-set_aside.ensures.same
    c.in_ok-ended.ensures.open)

pub returns-clause-calls : goal.returns-clause-calls
returns-clause-calls c =
    subst (λ (j : TimedStanding State Access). (n : ℕ) (access : Access) → IsCallOf (whole c.set_aside.new.judge c.set_aside.new.parts.items) n access → IsCallOf j n access) c.self.view_is
    (end_calls c.args.number c.self.inside.judge c.join.new.judge c.end.new.self c.set_aside.new.judge c.self.inside.parts.items c.join.new.parts.items
    c.set_aside.new.parts.items c.in_ok-join.ensures.same c.in_ok-join.ensures.aside c.in_ok-join.ensures.free c.in_ok-ended.ensures.place c.in_ok-set_aside.ensures.same)

pub returns-clause-some : goal.returns-clause-some
returns-clause-some c =
    let on = end_some c.args.number c.self.inside.judge c.join.new.judge c.end.new.self c.set_aside.new.judge c.self.inside.parts.items c.join.new.parts.items
    c.set_aside.new.parts.items c.in_ok-join.ensures.same c.in_ok-join.ensures.aside c.in_ok-join.ensures.free c.in_ok-ended.ensures.place c.in_ok-set_aside.ensures.same in
    let ended = c.in_ok-ended.ensures.some in
    (λ none. on.0 (ended.0 none), λ some. ended.1 (on.1 some))

pub returns-clause-refuted : goal.returns-clause-refuted
returns-clause-refuted c =
    subst (λ (j : TimedStanding State Access). IfSome c.in_ok-ended.ended (IsRefutedBeside j c.args.number)) c.self.view_is
    (end_refuted c.args.number c.self.inside.judge c.join.new.judge c.end.new.self c.set_aside.new.judge c.self.inside.parts.items c.join.new.parts.items
    c.set_aside.new.parts.items c.in_ok-join.ensures.same c.in_ok-join.ensures.aside c.in_ok-join.ensures.free c.in_ok-ended.ensures.place c.in_ok-ended.ended
    c.in_ok-ended.ensures.refuted)

pub invariant_of-self : goal.invariant_of-self
invariant_of-self c = record { aside = c.in_err-join.ensures.aside; free = λ is. cc (is) }

pub invariant_of-self-2 : goal.invariant_of-self-2
invariant_of-self-2 c = record {
  aside = c.set_aside.ensures.aside;
  free = λ _. c.set_aside.ensures.free (end_free c.args.number c.self.inside.judge c.join.new.judge c.end.new.self c.set_aside.new.judge c.self.inside.parts.items
      c.join.new.parts.items c.set_aside.new.parts.items c.in_ok-join.ensures.same c.in_ok-join.ensures.aside c.in_ok-join.ensures.free c.in_ok-ended.ensures.place);
}

pub returns-in_err-join-clause-many : goal.returns-in_err-join-clause-many
returns-in_err-join-clause-many c = λ is.
    let fault = ap (λ e. Err e) (returned _ _ _ c.from_residual.ensures.1 is) in
    inl (subst (λ (j : TimedStanding State Access). HasMoreJoined j.standing.kept c.args.most) c.self.view_is (c.in_err-join.ensures.many fault))

pub returns-in_err-ended-clause-many : goal.returns-in_err-ended-clause-many
returns-in_err-ended-clause-many c = λ is.
    let fault = ap (λ e. Err e) (returned _ _ _ c.from_residual-in_err-ended.ensures.1 is) in
    inr (subst (λ (j : TimedStanding State Access). HasMoreBeside j c.args.number c.args.most) c.self.view_is
    (more_beside c.args.number c.args.most c.self.inside.judge c.join.new.judge c.self.inside.parts.items c.join.new.parts.items c.in_ok-join.ensures.same
    c.in_ok-join.ensures.aside c.in_ok-join.ensures.free (c.in_err-ended.ensures.many fault)))
