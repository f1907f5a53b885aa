use Rattle.history_parts.specs.Splits.{AreStoresTo}
use Rattle.history_parts.proofs.split.stores_of.Given as goal

abbrev pub invariant-loop-place : goal.invariant-loop-place
invariant-loop-place l = AreStoresTo l.range.off l.range.len l.stores.items
