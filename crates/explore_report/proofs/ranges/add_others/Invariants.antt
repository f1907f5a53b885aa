use Rattle.std.proofs.Common.{◌≡◌, ◌++◌, take}
use Rattle.std.specs.List.{flat_map}
use Rattle.explore_report.specs.PhaseRanges.{next_range_text}
use Rattle.explore_report.proofs.ranges.add_others.Given as goal

abbrev pub invariant-loop-range : goal.invariant-loop-range
invariant-loop-range l = l.text.items ≡ l.initial.text.items ++ flat_map next_range_text (take l.range-index l.ranges)
