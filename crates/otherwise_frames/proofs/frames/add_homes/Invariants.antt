use Rattle.std.proofs.Common.{◌≡◌, ◌++◌}
use Rattle.std.specs.List.{flat_map, range_with_len}
use Rattle.otherwise_frames.specs.Frames.{home_at, listed}
use Rattle.otherwise_frames.proofs.frames.add_homes.Given as goal

abbrev pub invariant-loop-place : goal.invariant-loop-place
invariant-loop-place l =
    l.rows.items ≡ l.initial.rows.items
    ++ flat_map (λ place. listed (home_at l.heap.taken l.group place)) (range_with_len 0 l.place)
