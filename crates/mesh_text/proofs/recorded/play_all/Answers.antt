use Rattle.std.proofs.Common.{arith}
use Rattle.mesh_text.proofs.PlanLines.{lines_count}
use Rattle.mesh_text.proofs.recorded.play_all.Goals as goal

pub loop-place-init : goal.loop-place-init
loop-place-init c = c.requires

pub play-requires : goal.play-requires
play-requires c = grind (arith, lines_count)

pub loop-place-preserved : goal.loop-place-preserved
loop-place-preserved c = c.in_ok-play.ensures.stands

pub returns : goal.returns
returns c = grind (arith, lines_count)
