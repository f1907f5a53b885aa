use Rattle.history_in_order.proofs.Kept.{bytes_in-empty}
use Rattle.history_in_order.proofs.sparse.SparseBytes.new.Goals as goal

pub returns : goal.returns
returns c = bytes_in-empty c.new.result c.args.len c.new.ensures.empty
