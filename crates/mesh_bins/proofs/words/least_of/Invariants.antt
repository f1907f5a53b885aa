use Rattle.std.proofs.Common.{ℕ, ◌+◌, ◌*◌, ◌<◌, ◌≤◌, List}
use Rattle.mesh_bins.proofs.WordLemmas.{ArePassed}
use Rattle.mesh_bins.proofs.words.least_of.Given as goal

-- the words below the place are passed, and of the word there the bits below `low`
pub record IsAt (words : List ℕ) (from place low : ℕ) : Type 0 where
  pub small : low < 64
  pub start : from ≤ 64 * place + low
  pub passed : ArePassed words from (64 * place + low)

abbrev pub invariant-loop-place : goal.invariant-loop-place
invariant-loop-place l = IsAt l.words l.from l.place l.low
