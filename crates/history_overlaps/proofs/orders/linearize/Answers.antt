use Rattle.std.proofs.Common.{ℕ, ◌<◌, List, ap, arith, length, map, rules, subst, sym}
use Rattle.std.specs.List.{All}
use Rattle.model_intervals.specs.OverlappingCalls.{IsHistory}
use Rattle.model_intervals.proofs.ByObject.{explained}
use Rattle.history_reading.specs.CallWords.{plain_call}
use Rattle.history_overlaps.specs.Orders.{IsLegalOrder, calls_in_order}
use Rattle.history_overlaps.specs.Points.{AreSortedByPoints, HavePoints}
use Rattle.history_overlaps.specs.declared.points.Point.{Point}
use Rattle.history_overlaps.proofs.LegalByPoints.{legal_by_points}
use Rattle.history_overlaps.proofs.InOrder.{order_explains, order_length, places_within}
use Rattle.history_overlaps.proofs.orders.linearize.Goals as goal

pub is_legal_order-requires-clause-places : goal.is_legal_order-requires-clause-places
is_legal_order-requires-clause-places c =
    let count = length c.args.calls.now in
    subst (λ (numbers : List ℕ). All (λ (number : ℕ). number < count) numbers) (sym c.as_slice-2.ensures.value)
    (places_within count c.in_ok-order.order.items c.in_ok-order.ensures.each)

pub is_legal_order-requires-clause-few : goal.is_legal_order-requires-clause-few
is_legal_order-requires-clause-few c =
    let same = ap (λ (numbers : List ℕ). length numbers) c.as_slice-2.ensures.value in
    let all = order_length (length c.args.calls.now) c.in_ok-order.order.items c.in_ok-order.ensures.each in
    omega (arith, same, all, c.requires.few)

pub returns-clause-places : goal.returns-clause-places
returns-clause-places c = places_within (length c.args.calls.now) c.in_ok-order.order.items c.in_ok-order.ensures.each

pub returns-clause-explains : goal.returns-clause-explains
returns-clause-explains c =
    order_explains c.args.calls.now c.in_ok-order.order.items c.as_slice-2.result.now c.in_ok-order.ensures.each c.as_slice-2.ensures.value
    (c.in_ok-is_legal_order.ensures.legal (search rules))

-- if some order explained the calls, the sorted calls would be a legal order
pub returns-then-not-branch-clause-none : goal.returns-then-not-branch-clause-none
returns-then-not-branch-clause-none c = λ _ history linearizable.
    let calls = map plain_call c.args.calls.now in
    let sorted = calls_in_order c.args.calls.now c.in_ok-order.order.items in
    let told : IsHistory calls → HavePoints calls c.in-Some.points.items = (let t = rw c.in-Some.is at c.in_ok-points.ensures.points in t) in
    let have = told history in
    let by_points = subst (λ (points : List Point). AreSortedByPoints calls points sorted) c.as_slice.ensures.value c.in_ok-order.ensures.keyed in
    let legal = legal_by_points calls c.in-Some.points.items have.0 sorted history (explained calls history linearizable) have.2 have.1 by_points in
    c.in_ok-is_legal_order.ensures.illegal c.if-not-branch.true
    (subst (λ (numbers : List ℕ). IsLegalOrder (calls_in_order c.args.calls.now numbers)) (sym c.as_slice-2.ensures.value) legal)
