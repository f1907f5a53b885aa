use Rattle.std.proofs.Common.{◌≡◌}
use Rattle.std.specs.List.{flat_map, range_with_len}
use Rattle.otherwise_frames.specs.Frames.{hidden_at, listed}
use Rattle.otherwise_frames.proofs.frames.hidden_in.Given as goal

abbrev pub invariant-loop-page : goal.invariant-loop-page
invariant-loop-page l = l.rows.items ≡ flat_map (λ page. listed (hidden_at l.entries page)) (range_with_len 0 l.page)
