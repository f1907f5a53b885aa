use Rattle.std.proofs.Common.{◌≡◌, ℕ, ◌+◌, ◌<◌, ◌≤◌, Some, length, slice_get}
use Rattle.history_object.specs.declared.configuration.Configuration.{Configuration}
use Rattle.history_object.specs.ObjectBytes.{State, bytes_of}
use Rattle.history_parts.proofs.split.fits.Given as goal

abbrev pub invariant-loop-place : goal.invariant-loop-place
invariant-loop-place l = (i : ℕ) (c : Configuration State) → i < l.place → slice_get l.kept i ≡ Some c → l.range.off + l.range.len ≤ length (bytes_of c.state)
