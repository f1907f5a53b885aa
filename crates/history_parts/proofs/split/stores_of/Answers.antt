use Rattle.std.proofs.Common.{inl, inr, subst}
use Rattle.history_object.specs.declared.access.Access.{Access}
use Rattle.history_parts.specs.Splits.{IsStoreTo}
use Rattle.history_parts.proofs.split.stores_of.Goals as goal

pub loop-place-preserved : goal.loop-place-preserved
loop-place-preserved c = λ access is. elim (c.in_ok-add.ensures access is) [
  | inl before ↦ c.loop-place.invariant access before
  | inr same ↦ subst (λ (a : Access). IsStoreTo c.args.range.off c.args.range.len a) same c.in_ok-store.ensures
]
