use Rattle.std.proofs.Common.{◌≡◌, ℕ, ◌<◌, Some, slice_get}
use Rattle.history_object.specs.declared.access.Access.{Access}
use Rattle.history_object.specs.Carried.{IsKept}
use Rattle.history_object.specs.ObjectBytes.{effect}
use Rattle.history_parts.specs.declared.part.Part.{Part}
use Rattle.history_parts.specs.Aside.{AreApart}
use Rattle.history_parts.proofs.parts.calls.Given as goal

abbrev pub invariant-loop-part : goal.invariant-loop-part
invariant-loop-part l = (k : ℕ) (part : Part) → k < l.part-index → slice_get l.parts k ≡ Some part → (store : Access) → IsKept part.stores.items store
    → AreApart effect l.access store
