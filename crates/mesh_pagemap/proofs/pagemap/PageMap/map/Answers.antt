use Rattle.std.proofs.Common.{◌≡◌, Some, ap, set, ◌∙◌}
use Rattle.std.specs.FinMap.{insert}
use Rattle.mesh_pagemap.specs.Table.{mapping}
use Rattle.mesh_pagemap.proofs.Lookups.{mapping-same, mapping-set_some}
use Rattle.mesh_pagemap.proofs.Changes.{maps}
use Rattle.mesh_pagemap.proofs.pagemap.PageMap.map.Goals as goal

-- the table after its growth is the map with the entry
mapped : (c : goal.After-self-1) → mapping (set c.reach.new.table.items c.args.vpage (Some (c.args.page, c.args.prot)))
    ≡ insert (mapping c.self.inside.table.items) c.args.vpage (c.args.page, c.args.prot)
mapped c =
    mapping-set_some c.reach.new.table.items c.args.vpage (c.args.page, c.args.prot) c.reach.ensures.reached
    ∙ ap (λ m. insert m c.args.vpage (c.args.page, c.args.prot)) (mapping-same c.self.inside.table.items c.reach.new.table.items c.reach.ensures.same)

pub returns-clause-entry : goal.returns-clause-entry
returns-clause-entry c = rw (← c.self.view_is) (mapped c)

pub returns-clause-maps : goal.returns-clause-maps
returns-clause-maps c =
    rw (← c.self.view_is, mapped c) (maps _ c.args.vpage c.args.page c.args.prot (rw (← c.self.view_is) at c.requires.unmapped))
