use Rattle.std.proofs.Common.{◌≡◌, ℕ, ◌+◌, ◌<◌, ◌≤◌, Some, None, List, Option, slice_index_or, slice_set, length, arith}
use Rattle.std.proofs.lemmas.List.{get_or-set_other, get_or-set_same}
use Rattle.std.proofs.Math.ListN.{length-set}
use Rattle.mesh_spans.specs.Index.{OwnsUpTo}
use Rattle.mesh_spans.proofs.owners.own_pages.Goals as goal

-- one page more, once its place has come to be
more : (old now reached : List (Option ℕ)) (first page span : ℕ) → first ≤ page → page < length reached
    → ((v : ℕ) → slice_index_or reached v None ≡ slice_index_or now v None) → OwnsUpTo old now first page span
    → OwnsUpTo old (slice_set reached page (Some span)) first (page + 1) span
more old now reached first page span from there same owns = grind (arith, get_or-set_same, get_or-set_other)

pub loop-page-preserved : goal.loop-page-preserved
loop-page-preserved c = grind (arith, length-set, more)
