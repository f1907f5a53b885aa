use Rattle.std.proofs.Common.{sym}
use Rattle.std.specs.Ordering.{nat_cmp}
use Rattle.std.specs.BTreeMap.{get}
use Rattle.history_in_order.proofs.Kept.{length_of_all}
use Rattle.history_in_order.proofs.sparse.SparseBytes.len.Goals as goal

pub returns : goal.returns
returns c = sym (length_of_all (get nat_cmp c.self.inside.chunks) c.self.inside.len c.args.self.now c.self.view_is)
