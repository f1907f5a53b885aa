use Rattle.std.proofs.Common.{◌++◌, [], ◌∷◌, List, arith, map, subst, sym, take}
use Rattle.model_intervals.specs.Intervals.{Call}
use Rattle.history_reading.specs.CallWords.{plain_call}
use Rattle.history_overlaps.specs.Points.{AreOwnPoints}
use Rattle.history_overlaps.specs.declared.points.Point.{Point}
use Rattle.history_overlaps.proofs.Grouping.{calls_more}
use Rattle.history_overlaps.proofs.PointsOfHistories.{own_more}
use Rattle.history_overlaps.proofs.points.own_points.Goals as goal

pub loop-call-preserved : goal.loop-call-preserved
loop-call-preserved c =
    let calls = c.args.calls.now in
    let i = c.loop-call.call-index in
    let call = c.call-item.result in
    subst (λ (some : List Call). AreOwnPoints some c.push.new.self.items) (sym (calls_more calls i call (omega arith) c.call-item.is))
    (subst (λ (points : List Point). AreOwnPoints (map plain_call (take i calls) ++ plain_call call ∷ []) points) (sym c.in_ok-push.ensures.items)
    (own_more (map plain_call (take i calls)) c.loop-call.points.items (plain_call call) c.own_point.result c.loop-call.invariant c.own_point.ensures))
