use Rattle.std.proofs.Common.{arith}
use Rattle.mesh_pagemap.proofs.Changes.{entry_changes, unmaps}
use Rattle.mesh_pagemap.proofs.pagemap.PageMap.unmap.Goals as goal

pub returns-clause-unmaps : goal.returns-clause-unmaps
returns-clause-unmaps c = unmaps c.args.self.now _ c.args.vpage c.requires.mapped (grind (arith, entry_changes))
