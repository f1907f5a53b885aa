use Rattle.std.proofs.Common.{ap, ◌∙◌}
use Rattle.mesh_pagemap.specs.Entries.{is_mapped}
use Rattle.mesh_pagemap.specs.Table.{mapping}
use Rattle.mesh_pagemap.proofs.Lookups.{mapping-none}
use Rattle.mesh_pagemap.proofs.Changes.{is_mapped-empty}
use Rattle.mesh_pagemap.proofs.pagemap.PageMap.new.Goals as goal

pub returns-clause-empty : goal.returns-clause-empty
returns-clause-empty c = ap mapping c.in_ok-table.ensures.items ∙ mapping-none

pub returns-clause-unmapped : goal.returns-clause-unmapped
returns-clause-unmapped c = λ v. ap (λ m. is_mapped m v) (ap mapping c.in_ok-table.ensures.items ∙ mapping-none) ∙ is_mapped-empty v
