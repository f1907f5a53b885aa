-- If orders explain the accesses of each object, and the points follow these orders, the calls sorted by their points
-- are a legal order.
use Rattle.std.proofs.Common.{ℕ, List, subst}
use Rattle.model_intervals.specs.Intervals.{Call}
use Rattle.model_intervals.specs.Objects.{Object, ExplainsAccesses, IsExplainedByObject, IsMadeAt}
use Rattle.model_intervals.specs.OverlappingCalls.{IsHistory}
use Rattle.model_intervals.proofs.GivenKeys.{keys_explain}
use Rattle.history_overlaps.specs.Orders.{IsLegalOrder, at_places}
use Rattle.history_overlaps.specs.Points.{ArePoints, AreSortedByPoints}
use Rattle.history_overlaps.specs.declared.points.Point.{Point}

pub legal_by_points : (calls : List Call) (points : List Point) (orders : ℕ → List ℕ) (sorted : List Call) → IsHistory calls → IsExplainedByObject calls
    → ((i : ℕ) (call : Call) (x : Object) → IsMadeAt calls i call x → ExplainsAccesses calls x.cell x.len x.address (at_places calls (orders x.cell)))
    → ArePoints calls points orders → AreSortedByPoints calls points sorted → IsLegalOrder sorted
legal_by_points calls points orders sorted history explained explains are by_points =
    let keyed = by_points orders are in
    let legal = keys_explain calls (λ cell. at_places calls (orders cell)) keyed.0 history explained explains keyed.2 in
    subst (λ (order : List Call). IsLegalOrder order) keyed.1 (record { in_time = legal.in_time; end = legal.end; legal = legal.legal })
