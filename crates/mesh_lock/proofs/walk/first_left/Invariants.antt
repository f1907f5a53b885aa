use Rattle.std.proofs.Common.{◌≡◌, ◌<◌, ℕ, []}
use Rattle.mesh_lock.specs.Walk.{left_of}
use Rattle.mesh_lock.proofs.walk.first_left.Given as goal

abbrev pub invariant-loop-w : goal.invariant-loop-w
invariant-loop-w l = (v : ℕ) → v < l.w → left_of l.rests v ≡ []
