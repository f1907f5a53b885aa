use Rattle.std.proofs.Common.{◌≡◌, drop, length}
use Rattle.otherwise_report.specs.Timings.{are_begun}
use Rattle.otherwise_report.proofs.timing.are_begun.Given as goal

abbrev pub invariant-loop-place : goal.invariant-loop-place
invariant-loop-place l = record {
  end : l.place-end ≡ length l.reached.system.states;
  left : are_begun l.reached.system.states ≡ are_begun (drop l.place l.reached.system.states);
}
