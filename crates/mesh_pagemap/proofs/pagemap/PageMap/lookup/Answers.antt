use Rattle.std.proofs.Common.{◌≡◌, ℕ, List, Option, Some, None, ap, get_or, sym, ◌∙◌}
use Rattle.std.specs.Prelude.{IfSome, is_some}
use Rattle.std.specs.FinMap.{get}
use Rattle.mesh_pagemap.specs.declared.prot.Prot.{Prot}
use Rattle.mesh_pagemap.specs.Entries.{Entries, page_of, is_read_only, reads_only}
use Rattle.mesh_pagemap.proofs.Lookups.{get-mapping, mapping-range}
use Rattle.mesh_pagemap.proofs.Changes.{is_some-get, page_of-get, is_read_only-get}
use Rattle.mesh_pagemap.proofs.pagemap.PageMap.lookup.Goals as goal

page_found : (m : Entries) (v : ℕ) (o : Option (ℕ × Prot)) → o ≡ get m v → IfSome o (λ entry. entry.0 ≡ page_of m v)
page_found m v None e = tt
page_found m v (Some entry) e = page_of-get m v entry (sym e)

prot_found : (m : Entries) (v : ℕ) (o : Option (ℕ × Prot)) → o ≡ get m v → IfSome o (λ entry. reads_only entry.1 ≡ is_read_only m v)
prot_found m v None e = tt
prot_found m v (Some entry) e = is_read_only-get m v entry (sym e)

found : (c : goal.After-entry_at) → c.entry_at.result ≡ get c.args.self.now c.args.vpage
found c = rw (← c.self.view_is) (c.entry_at.ensures ∙ ap (λ (places : List (Option (ℕ × Prot))). get_or places c.args.vpage None) c.as_slice.ensures.value ∙ sym (get-mapping c.self.inside.table.items c.args.vpage))

pub returns-clause-entry : goal.returns-clause-entry
returns-clause-entry c = found c

pub returns-clause-mapped : goal.returns-clause-mapped
returns-clause-mapped c = ap is_some (found c) ∙ is_some-get _ _

pub returns-clause-page : goal.returns-clause-page
returns-clause-page c = page_found _ _ c.entry_at.result (found c)

pub returns-clause-read_only : goal.returns-clause-read_only
returns-clause-read_only c = prot_found _ _ c.entry_at.result (found c)

pub returns-clause-range : goal.returns-clause-range
returns-clause-range c = rw (← c.self.view_is) (mapping-range c.self.inside.table.items c.self.invariant.0)
