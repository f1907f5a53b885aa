use Rattle.std.proofs.Common.{◌∙◌}
use Rattle.mesh_shared.proofs.MesherCounts.{begun_is_running, stepped_is_running, refused_is_tried, left_is_tried, ended_is_tried, broken_is_tried}
use Rattle.mesh_shared.proofs.mesher.Mesher.mesh_pair.Goals as goal

pub loop-init : goal.loop-init
loop-init g c = (c.in_ok-left.ensures.most, begun_is_running _ _ c.in_ok-left.ensures.begun)

pub loop-preserved : goal.loop-preserved
loop-preserved g c =
    let was = c.loop.invariant in
    (c.step.ensures.most ∙ was.0, stepped_is_running _ _ _ c.in_ok-left-2.field-0 was.1 c.in_ok-left-2.ensures.stepped c.if-left-eq0.false)
