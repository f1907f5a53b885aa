use Rattle.std.proofs.Common.{refl, sym}
use Rattle.mesh_page_heap.proofs.Groups.{entry_in_table, none_in_table}
use Rattle.mesh_page_heap.proofs.page_heap.PageHeap.class_of.Goals as goal

pub returns-in_default : goal.returns-in_default
returns-in_default c = rw (← c.self.view_is, none_in_table c.self.inside.spans c.args.n (sym c.in_default.ensures)) refl

pub returns : goal.returns
returns c = rw (← c.self.view_is, entry_in_table c.self.inside.spans c.args.n c.in-Some.group.now (sym c.in-Some.ensures), c.class.ensures) refl
