use Rattle.std.proofs.Common.{sym}
use Rattle.mesh_page_heap.proofs.Shown.{leads_nowhere}
use Rattle.mesh_page_heap.proofs.page_heap.PageHeap.lead.Goals as goal

pub returns-then-v-self : goal.returns-then-v-self
returns-then-v-self c = rw (← c.self.view_is) (sym (leads_nowhere c.self.inside.store.map c.args.v (c.self.invariant.fresh c.args.v c.if-v-self.true)))
