use Rattle.std.proofs.Common.{rules}
use Rattle.mesh_arena.specs.Pages.{blank_page}
use Rattle.mesh_arena.proofs.frame.Frame.blank.Goals as goal

pub returns : goal.returns
unfolding blank_page
returns c = search rules
