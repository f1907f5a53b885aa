use Rattle.std.proofs.Common.{◌≡◌, ℕ, ◌+◌, ◌-◌, ◌≤◌, ◌%◌, List}
use Rattle.mesh_bits.specs.Bits.{members, clear_count}
use Rattle.mesh_bits.proofs.bitmap.skip_words.Given as goal

-- the words below `first` are passed
pub record ArePassed (words : List ℕ) (first place left : ℕ) : Type 0 where
  pub within : first ≤ 192
  pub whole : first % 64 ≡ 0
  pub count : left + clear_count (members words first) ≡ place

abbrev pub invariant-loop-first : goal.invariant-loop-first
invariant-loop-first l = ArePassed l.words l.first l.place l.left

abbrev pub decreases-loop-first : goal.decreases-loop-first
decreases-loop-first l = l.width - l.first
