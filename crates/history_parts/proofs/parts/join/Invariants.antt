use Rattle.std.proofs.Common.{length}
use Rattle.history_parts.specs.Parts.{AreAside, IsSameWhole, stores_of}
use Rattle.history_parts.proofs.parts.join.Given as goal

abbrev pub invariant-loop-place : goal.invariant-loop-place
invariant-loop-place l = record {
  same : IsSameWhole l.initial.judge l.judge l.initial.parts.items l.parts.items;
  aside : AreAside l.judge.standing.kept (stores_of l.parts.items);
}

abbrev pub decreases-loop-place : goal.decreases-loop-place
decreases-loop-place l = length l.parts.items
