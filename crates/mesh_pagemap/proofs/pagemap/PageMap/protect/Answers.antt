use Rattle.std.proofs.Common.{arith}
use Rattle.mesh_pagemap.proofs.Changes.{entry_changes, protects}
use Rattle.mesh_pagemap.proofs.pagemap.PageMap.protect.Goals as goal

pub returns-clause-protects : goal.returns-clause-protects
returns-clause-protects c = protects c.args.self.now _ c.args.vpage c.args.prot c.requires.mapped (grind (arith, entry_changes))
