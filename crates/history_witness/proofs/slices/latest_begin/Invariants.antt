use Rattle.std.proofs.Common.{◌≡◌, drop, map, max}
use Rattle.history_reading.specs.CallWords.{plain_call}
use Rattle.history_witness.specs.Slices.{latest_begin}
use Rattle.history_witness.proofs.slices.latest_begin.Given as goal

abbrev pub invariant-loop-call : goal.invariant-loop-call
invariant-loop-call l = max l.latest (latest_begin l.cell l.at l.moment (map plain_call (drop l.call-index l.calls))) ≡ latest_begin l.cell l.at l.moment (map plain_call l.calls)
