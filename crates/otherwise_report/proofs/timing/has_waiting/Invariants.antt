use Rattle.std.proofs.Common.{◌≡◌, drop, length}
use Rattle.otherwise_report.specs.Timings.{has_waiting}
use Rattle.otherwise_report.proofs.timing.has_waiting.Given as goal

abbrev pub invariant-loop-place : goal.invariant-loop-place
invariant-loop-place l = record {
  end : l.place-end ≡ length l.reached.system.states;
  left : has_waiting l.reached.system.setting l.meshers l.reached.system.states
      ≡ has_waiting l.reached.system.setting l.meshers (drop l.place l.reached.system.states);
}
