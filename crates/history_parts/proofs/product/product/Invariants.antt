use Rattle.history_object.specs.ObjectBytes.{effect}
use Rattle.history_parts.proofs.Gathered.{AreOfFront}
use Rattle.history_parts.proofs.product.product.Given as goal

abbrev pub invariant-loop-place : goal.invariant-loop-place
invariant-loop-place l = AreOfFront effect l.kept l.stores l.place l.all
