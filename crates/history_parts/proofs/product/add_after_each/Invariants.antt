use Rattle.history_object.specs.ObjectBytes.{effect}
use Rattle.history_parts.proofs.Gathered.{AreWithFront}
use Rattle.history_parts.proofs.product.add_after_each.Given as goal

abbrev pub invariant-loop-store : goal.invariant-loop-store
invariant-loop-store l = AreWithFront effect l.initial.all l.configuration l.stores l.store-index l.all
