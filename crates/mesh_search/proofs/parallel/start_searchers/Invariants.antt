use Rattle.std.proofs.Common.{◌≡◌, ◌≤◌, ℕ, ◌<◌, slice_index_or}
use Rattle.mesh_search.proofs.parallel.start_searchers.Given as goal

abbrev pub invariant-loop-k : goal.invariant-loop-k
invariant-loop-k g l =
    (l.handles.len ≡ l.k) × (l.cut.workers ≤ l.handles.cap)
    × ((i : ℕ) (d : _) → i < l.k → (slice_index_or l.handles.items i d).promise ≡ l.within)
