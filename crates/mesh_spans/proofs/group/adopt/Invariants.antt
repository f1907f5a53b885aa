use Rattle.std.proofs.Common.{◌≡◌, ◌++◌, List, ℕ, take}
use Rattle.mesh_spans.proofs.group.adopt.Given as goal

-- so many members were added
pub record AreAdded (old new more : List ℕ) (count capacity : ℕ) : Type 0 where
  pub items : new ≡ old ++ take count more
  pub room : capacity ≡ 8

abbrev pub invariant-loop-member : goal.invariant-loop-member
invariant-loop-member l = AreAdded l.fn.members.items l.members.items l.more l.member-index l.members.capacity
