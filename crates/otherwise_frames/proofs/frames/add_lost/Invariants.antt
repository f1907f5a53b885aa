use Rattle.std.proofs.Common.{◌≡◌, ◌++◌, filter, map, take}
use Rattle.otherwise_frames.specs.Frames.{is_lost, lost_home}
use Rattle.otherwise_frames.proofs.frames.add_lost.Given as goal

abbrev pub invariant-loop-page : goal.invariant-loop-page
invariant-loop-page l =
    l.rows.items ≡ l.initial.rows.items
    ++ map lost_home (filter (is_lost l.heap.groups) (take l.page-index l.heap.taken))
