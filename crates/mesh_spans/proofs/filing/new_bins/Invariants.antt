use Rattle.std.proofs.Common.{◌≡◌, ℕ, List, length}
use Rattle.std.specs.FinSet.{FinSet, empty}
use Rattle.std.specs.Ordering.{nat_cmp}
use Rattle.mesh_spans.specs.GroupBins.{bin_at}
use Rattle.mesh_spans.proofs.filing.new_bins.Given as goal

-- so many empty bins
pub record AreEmpty (bins : List (FinSet nat_cmp)) (count : ℕ) : Type 0 where
  pub long : length bins ≡ count
  pub none : (place : ℕ) → bin_at bins place ≡ empty

abbrev pub invariant-loop : goal.invariant-loop
invariant-loop l = AreEmpty l.bins.items l.counter
