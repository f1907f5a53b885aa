use Rattle.std.proofs.Common.{◌≡◌, ◌∙◌, true, false, ℕ, Option, Some, ap, slice_get, subst, sym}
use Rattle.std.proofs.lemmas.Result.{IfOk-weaker}
use Rattle.explore_otherwise.specs.Settings.{setting_of}
use Rattle.otherwise_report.proofs.PlanPoints.{less, not_less, point_from}
use Rattle.otherwise_report.specs.Points.{IsPointBehind, place_behind}
use Rattle.states_reach.specs.declared.origin.Origin.{Origin}
use Rattle.otherwise_report.proofs.points.point_at.Goals as goal

pub returns-then-plan-number : goal.returns-then-plan-number
returns-then-plan-number c =
    let states = c.args.plan.now.reached.now.system.states in
    let there = subst (λ (p : ℕ). slice_get states p ≡ Some c.in-Some.at.state)
    (c.place_behind-place.ensures ∙ ap (place_behind c.args.plan.now.moves.now c.args.number) c.place.ensures) c.in-Some.ensures.1 in
    IfOk-weaker c.point_of.result _ _
    (λ point is. point_from _ _ c.requires c.in-Some.at.state c.in_ok-frame.frame there c.in_ok-frame.ensures true (less _ _ c.if-plan-number.true) _ _ _ is)
    c.point_of.ensures

pub returns-in-Some-last_of : goal.returns-in-Some-last_of
returns-in-Some-last_of c =
    let states = c.args.plan.now.reached.now.system.states in
    let x = setting_of c.args.plan.now.setting.now in
    let there = subst (λ (p : ℕ). slice_get states p ≡ Some c.in-Some.at.state)
    (c.place_behind-place.ensures ∙ ap (place_behind c.args.plan.now.moves.now c.args.number) c.place.ensures) c.in-Some.ensures.1 in
    let last = sym c.in-Some-last_of.is ∙ c.last_of.ensures in
    IfOk-weaker c.point_behind.result _ _
    (λ point is. point_from _ _ c.requires c.in-Some.at.state c.in_ok-frame.frame there c.in_ok-frame.ensures false (not_less _ _ c.if-plan-number.false) _ _ _
    (subst (λ (o : Option Origin). IsPointBehind x states o c.in_ok-frame.frame point.words.items point.answer.items point.frame) last is))
    c.point_behind.ensures

pub returns : goal.returns
returns c =
    let states = c.args.plan.now.reached.now.system.states in
    let x = setting_of c.args.plan.now.setting.now in
    let there = subst (λ (p : ℕ). slice_get states p ≡ Some c.in-Some.at.state)
    (c.place_behind-place.ensures ∙ ap (place_behind c.args.plan.now.moves.now c.args.number) c.place.ensures) c.in-Some.ensures.1 in
    let none = sym c.in-None.is ∙ c.last_of.ensures in
    IfOk-weaker c.first_point.result _ _
    (λ point is. point_from _ _ c.requires c.in-Some.at.state c.in_ok-frame.frame there c.in_ok-frame.ensures false (not_less _ _ c.if-plan-number.false) _ _ _
    (subst (λ (o : Option Origin). IsPointBehind x states o c.in_ok-frame.frame point.words.items point.answer.items point.frame) none is))
    c.first_point.ensures
