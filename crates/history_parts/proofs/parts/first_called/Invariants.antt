use Rattle.std.proofs.Common.{◌≡◌, ℕ, ◌<◌, Some, slice_get}
use Rattle.history_object.specs.declared.access.Access.{Access}
use Rattle.history_object.specs.Carried.{IsKept}
use Rattle.history_parts.specs.declared.part.Part.{Part}
use Rattle.history_object.specs.ObjectBytes.{effect}
use Rattle.history_parts.specs.Aside.{IsApartFrom}
use Rattle.history_parts.proofs.parts.first_called.Given as goal

abbrev pub invariant-loop-place : goal.invariant-loop-place
invariant-loop-place l = (k : ℕ) (part : Part) → k < l.place → slice_get l.parts k ≡ Some part → (store : Access) → IsKept part.stores.items store
    → IsApartFrom effect l.pending store
