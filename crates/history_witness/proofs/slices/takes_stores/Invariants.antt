use Rattle.std.proofs.Common.{ℕ, ◌+◌, ◌<◌, map}
use Rattle.history_reading.specs.CallWords.{plain_call}
use Rattle.history_witness.specs.Slices.{TakesStoresAt}
use Rattle.history_witness.specs.TakenLines.{taken_in}
use Rattle.history_witness.proofs.slices.takes_stores.Given as goal

abbrev pub invariant-loop-distance : goal.invariant-loop-distance
invariant-loop-distance l = (k : ℕ) → k < l.distance → TakesStoresAt (map plain_call l.calls) (taken_in l.taken) l.cell (l.off + k) (plain_call l.call)
