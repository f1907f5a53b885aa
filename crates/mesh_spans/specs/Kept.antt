-- What always holds of the groups with their bins and counts.
use Rattle.std.specs.Prelude.{◌≡◌, ℕ, ◌≤◌, List, Option, Some, length}
use Rattle.std.specs.Ordering.{nat_cmp}
use Rattle.std.specs.FinSet as set
use Rattle.mesh_spans.specs.Counts.{IsCounted}
use Rattle.mesh_spans.specs.GroupBins.{IsFiled}
use Rattle.mesh_spans.specs.Index.{GroupEntry, IsGroup, group_at}
use Rattle.mesh_spans.specs.declared.totals.Totals.{Totals}

-- there are at most 65,536 groups, each is valid and in its bin, and the counts are the sums over all groups
pub record AreKept (groups : List (Option GroupEntry)) (bins : List (set.FinSet nat_cmp)) (totals : Totals) : Type 0 where
  pub few : length groups ≤ 65536
  pub each : (n : ℕ) (group : GroupEntry) → group_at groups n ≡ Some group → IsGroup group
  pub filed : IsFiled groups bins
  pub counted : IsCounted groups totals
