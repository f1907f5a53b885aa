use Rattle.std.proofs.Common.{arith}
use Rattle.mesh_pagemap.proofs.Changes.{entry_changes, remaps}
use Rattle.mesh_pagemap.proofs.pagemap.PageMap.remap.Goals as goal

pub returns-clause-remaps : goal.returns-clause-remaps
returns-clause-remaps c = remaps c.args.self.now _ c.args.vpage c.args.page c.requires.mapped (grind (arith, entry_changes))
