use Rattle.std.proofs.Common.{◌≡◌, ℕ, ◌<◌, Some, slice_get}
use Rattle.history_object.specs.declared.access.Access.{Access}
use Rattle.history_object.specs.ObjectBytes.{effect}
use Rattle.history_parts.specs.Aside.{IsApartFrom}
use Rattle.history_parts.proofs.parts.are_free.Given as goal

abbrev pub invariant-loop-store : goal.invariant-loop-store
invariant-loop-store l = (i : ℕ) (store : Access) → i < l.store-index → slice_get l.stores i ≡ Some store → IsApartFrom effect l.pending store
