use Rattle.std.proofs.Common.{inl, inr}
use Rattle.history_parts.proofs.split.all_after.Goals as goal

pub loop-place-preserved : goal.loop-place-preserved
loop-place-preserved c = λ d is. elim ((c.in_ok-add_after.ensures d).0 is) [
  | inl before ↦ c.loop-place.invariant d before
  | inr stored ↦ (c.get.result.now, c.args.store.now, (c.loop-place.place, c.get.ensures), stored)
]
