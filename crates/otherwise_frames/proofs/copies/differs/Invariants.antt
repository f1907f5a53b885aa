use Rattle.std.proofs.Common.{◌≡◌, ◌<◌, ℕ, false}
use Rattle.otherwise_frames.specs.Copies.{differs_at}
use Rattle.otherwise_frames.proofs.copies.differs.Given as goal

abbrev pub invariant-loop-k : goal.invariant-loop-k
invariant-loop-k l = (k : ℕ) → k < l.k → differs_at l.spots l.mesh l.offset l.bytes k ≡ false
