use Rattle.std.proofs.Common.{◌≡◌, ◌<◌, ℕ, false}
use Rattle.otherwise_frames.specs.Copies.{is_uncopied}
use Rattle.otherwise_frames.proofs.copies.copied_slots.Given as goal

abbrev pub invariant-loop-slot : goal.invariant-loop-slot
invariant-loop-slot l = (k : ℕ) → k < l.slot → is_uncopied l.memory l.spots l.mesh k ≡ false
