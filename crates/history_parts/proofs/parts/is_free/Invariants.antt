use Rattle.std.proofs.Common.{◌≡◌, ℕ, ◌<◌, Some}
use Rattle.history_object.specs.declared.access.Access.{Access}
use Rattle.history_object.specs.ObjectBytes.{effect}
use Rattle.history_object.specs.Standings.{call_at}
use Rattle.history_parts.specs.Aside.{AreApart}
use Rattle.history_parts.proofs.parts.is_free.Given as goal

abbrev pub invariant-loop-call : goal.invariant-loop-call
invariant-loop-call l = (i : ℕ) (other : Access) → i < l.call-index → call_at l.pending i ≡ Some other → AreApart effect other l.store
