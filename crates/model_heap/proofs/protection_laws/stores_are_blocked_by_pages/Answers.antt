use Rattle.model_heap.proofs.ReadOnlyPages.{blocked_by, by_blocked, is_read_only, read_only_is}
use Rattle.model_heap.proofs.protection_laws.stores_are_blocked_by_pages.Goals as goal

pub returns-clause-pages : goal.returns-clause-pages
returns-clause-pages c t v = (read_only_is t v, is_read_only t v)

pub returns-clause-blocked : goal.returns-clause-blocked
returns-clause-blocked c t address len = (blocked_by t address len, λ h. by_blocked t address len h.0 h.1 h.2 h.3)
