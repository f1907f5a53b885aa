use Rattle.std.proofs.Common.{◌≡◌, ℕ, ◌<◌, Some, slice_get}
use Rattle.history_object.specs.declared.access.Access.{Access}
use Rattle.history_object.specs.ObjectBytes.{effect}
use Rattle.history_parts.specs.Aside.{AreApart}
use Rattle.history_parts.proofs.parts.is_apart_from.Given as goal

abbrev pub invariant-loop-other : goal.invariant-loop-other
invariant-loop-other l = (i : ℕ) (other : Access) → i < l.other-index → slice_get l.more i ≡ Some other → AreApart effect l.store other
