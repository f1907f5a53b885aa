use Rattle.std.proofs.Common.{◌≡◌, ◌-◌, ◌≤◌, ◌++◌, length, map}
use Rattle.model_search.specs.Search.{candidate_of}
use Rattle.mesh_search.specs.Views.{IsView}
use Rattle.mesh_search.proofs.GroupViews.{AreBelow}
use Rattle.mesh_spans.specs.GroupBins.{candidates_from}
use Rattle.mesh_search.proofs.from_index.class_view.Given as goal

abbrev pub invariant-loop-number : goal.invariant-loop-number
invariant-loop-number l =
    (l.candidates.items ++ map candidate_of (candidates_from l.spans l.class l.from) ≡ map candidate_of (candidates_from l.spans l.class 0))
    × IsView (record { class = l.class; candidates = l.candidates.items }) × AreBelow l.candidates.items l.from
    × (length l.candidates.items ≤ l.from) × (l.from ≤ 65536)

abbrev pub decreases-loop-number : goal.decreases-loop-number
decreases-loop-number l = 65536 - l.from
