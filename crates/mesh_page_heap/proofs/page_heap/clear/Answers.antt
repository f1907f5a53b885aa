use Rattle.std.proofs.Common.{ℕ, List, subst}
use Rattle.std.proofs.lemmas.List.{take-replicate}
use Rattle.mesh_store.specs.Places.{Saves}
use Rattle.mesh_page_heap.proofs.page_heap.clear.Goals as goal

pub returns-clause-saves : goal.returns-clause-saves
returns-clause-saves c =
    subst (λ (bytes : List ℕ). Saves c.args.store.now.arena c.save.new.self.arena c.args.store.now.map c.args.addr bytes)
    (take-replicate c.args.len 2048 0 c.requires.few) c.save.ensures.saves
