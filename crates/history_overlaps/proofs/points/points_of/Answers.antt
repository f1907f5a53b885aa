use Rattle.std.proofs.Common.{ℕ, arith, map, subst}
use Rattle.std.proofs.lemmas.List.{length-map}
use Rattle.history_reading.specs.CallWords.{plain_call}
use Rattle.text_devices.proofs.LineSteps.{handed_on}
use Rattle.history_overlaps.specs.Followed.{IsStopped}
use Rattle.history_overlaps.proofs.PlacedObjects.{stopped_somewhere}
use Rattle.history_overlaps.proofs.PointsOfHistories.{ArePlacedSoFar, at_index, first_placed, have_points, more_placed, none_explains}
use Rattle.history_overlaps.proofs.points.points_of.Goals as goal

pub loop-call-init : goal.loop-call-init
loop-call-init c = first_placed (map plain_call c.args.calls.now) c.in_ok-points.points.items c.in_ok-points.ensures

pub returns-then-not-branch-clause-none : goal.returns-then-not-branch-clause-none
returns-then-not-branch-clause-none c =
    let calls = c.args.calls.now in
    let at = at_index calls c.loop-call.call-index c.call-item.result (omega arith) c.call-item.is in
    λ _. none_explains (map plain_call calls) c.loop-call.call-index (plain_call c.call-item.result) at (c.in_ok-place_object.ensures.none c.if-not-branch.true)

pub returns-in_err-place_object-clause-stopped : goal.returns-in_err-place_object-clause-stopped
returns-in_err-place_object-clause-stopped c =
    let calls = c.args.calls.now in
    let at = at_index calls c.loop-call.call-index c.call-item.result (omega arith) c.call-item.is in
    let fault = c.in_err-place_object.field-0.0 in
    handed_on c.from_residual-in_err-place_object.result fault (IsStopped (map plain_call calls) c.args.most) c.from_residual-in_err-place_object.ensures.1
    (stopped_somewhere (map plain_call calls) c.loop-call.call-index (plain_call c.call-item.result) c.args.most fault at c.in_err-place_object.ensures.stopped)

pub loop-call-preserved : goal.loop-call-preserved
loop-call-preserved c =
    let calls = c.args.calls.now in
    let i = c.loop-call.call-index in
    let at = at_index calls i c.call-item.result (omega arith) c.call-item.is in
    more_placed (map plain_call calls) c.loop-call.points.items c.place_object.new.points.items i (plain_call c.call-item.result) at c.loop-call.invariant
    (c.in_ok-place_object.ensures.placed c.if-not-branch.false) c.in_ok-place_object.ensures.many

pub returns-clause-points : goal.returns-clause-points
returns-clause-points c = λ history.
    let calls = map plain_call c.args.calls.now in
    have_points calls c.loop-call.points.items history
    (subst (λ (count : ℕ). ArePlacedSoFar calls c.loop-call.points.items count) (let long = length-map c.args.calls.now plain_call in omega (arith, long)) c.loop-call.invariant)
