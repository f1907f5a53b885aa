use Rattle.std.proofs.Common.{◌≡◌, ℕ, ◌+◌, ◌*◌, ◌<◌, ◌≤◌, slice_index}
use Rattle.savings_report.proofs.table.levels.add_each.Given as goal

abbrev pub invariant-loop-k : goal.invariant-loop-k
invariant-loop-k l =
    record {
      added : (j : ℕ) → j < l.k → slice_index l.sums j ≡ slice_index l.fn.sums j + l.times * slice_index l.pages j;
      left : (j : ℕ) → l.k ≤ j → slice_index l.sums j ≡ slice_index l.fn.sums j;
    }
