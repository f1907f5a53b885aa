use Rattle.std.proofs.Common.{◌≡◌, ◌<◌, ℕ, false}
use Rattle.otherwise_frames.specs.Copies.{misses}
use Rattle.otherwise_frames.proofs.copies.is_uncopied.Given as goal

abbrev pub invariant-loop-serial : goal.invariant-loop-serial
invariant-loop-serial l = (k : ℕ) → k < l.serial → misses l.memory l.spots l.mesh l.slot k ≡ false
