use Rattle.std.proofs.Common.{◌≡◌, drop}
use Rattle.otherwise_frames.specs.Frames.{is_lost}
use Rattle.otherwise_frames.proofs.rows.is_lost.Given as goal

abbrev pub invariant-loop-group : goal.invariant-loop-group
invariant-loop-group l = is_lost l.groups l.page ≡ is_lost (drop l.group-index l.groups) l.page
