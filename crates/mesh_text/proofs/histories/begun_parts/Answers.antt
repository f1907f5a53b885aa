use Rattle.std.proofs.Common.{◌∙◌, ap, map, List, Vec, ℕ, Global}
use Rattle.std.specs.Vec.{vec_items}
use Rattle.mesh_text.proofs.HistoryParts.{begun_more}
use Rattle.mesh_text.proofs.histories.begun_parts.Goals as goal

pub loop-worker-preserved : goal.loop-worker-preserved
loop-worker-preserved c =
    ap (λ (parts : List (Vec ℕ Global)). map vec_items parts) c.in_ok-push.ensures.items
    ∙ begun_more c.loop-worker.worker c.loop-worker.parts.items c.in_ok-begun_part.field-0 c.loop-worker.invariant c.in_ok-begun_part.ensures
