use Rattle.std.proofs.Common.{arith}
use Rattle.std.proofs.lemmas.Grind.{common_steps}
use Rattle.mesh_page_heap.proofs.GrowthLemmas.{MapsFirst_more}
use Rattle.mesh_page_heap.proofs.growth.map_pages.Goals as goal

pub loop-page-preserved : goal.loop-page-preserved
loop-page-preserved c = grind (arith, common_steps, MapsFirst_more)
