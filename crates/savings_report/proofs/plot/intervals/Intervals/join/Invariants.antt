use Rattle.std.proofs.Common.{◌≡◌, ◌+◌, ◌*◌, ◌<◌, ◌≤◌, ◌++◌, List, ℕ, length}
use Rattle.savings_report.specs.Intervals.{interval_at, interval_of}
use Rattle.savings_report.specs.declared.plot.readings.Reading.{Reading}
use Rattle.savings_report.proofs.plot.intervals.Intervals.join.Given as goal

abbrev pub invariant-loop-k : goal.invariant-loop-k
invariant-loop-k l =
    record {
      room : length l.self.list.items ≡ 600;
      width : l.self.width ≡ l.initial.self.width;
      count : l.self.count ≡ l.initial.self.count;
      joined : (j : ℕ) → j < l.k → (these those : List Reading) → 0 < length these → 0 < length those
          → interval_at l.initial.self.list.items (2 * j) ≡ interval_of these → interval_at l.initial.self.list.items (2 * j + 1) ≡ interval_of those
          → interval_at l.self.list.items j ≡ interval_of (these ++ those);
      left : (j : ℕ) → l.k ≤ j → interval_at l.self.list.items j ≡ interval_at l.initial.self.list.items j;
    }
