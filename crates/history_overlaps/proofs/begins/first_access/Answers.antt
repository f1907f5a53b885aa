use Rattle.history_overlaps.proofs.FirstAccess.{first_access_is}
use Rattle.history_overlaps.proofs.begins.first_access.Goals as goal

pub returns : goal.returns
returns c = first_access_is c.args.waiting.now c.args.cell c.first_access_of.result c.first_access_of.ensures.ordered c.first_access_of.ensures.first
