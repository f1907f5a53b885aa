use Rattle.std.proofs.Common.{◌≡◌, ℕ, ◌<◌, Some, slice_get}
use Rattle.history_parts.specs.declared.part.Part.{Part}
use Rattle.history_object.specs.ObjectBytes.{effect}
use Rattle.history_parts.specs.Aside.{ListsApart}
use Rattle.history_parts.proofs.parts.are_beside.Given as goal

abbrev pub invariant-loop-part : goal.invariant-loop-part
invariant-loop-part l = (k : ℕ) (part : Part) → k < l.part-index → slice_get l.parts k ≡ Some part → ListsApart effect part.stores.items l.stores
