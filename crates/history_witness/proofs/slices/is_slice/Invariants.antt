use Rattle.std.proofs.Common.{◌≡◌, ℕ, ◌<◌, true, Some, slice_get, map}
use Rattle.history_reading.specs.CallWords.{plain_call}
use Rattle.history_reading.specs.declared.words.TimedCall.{TimedCall}
use Rattle.model_intervals.specs.OverlappingCalls.{cell_at}
use Rattle.history_witness.specs.Slices.{TakesNewAndFree, TakesStores}
use Rattle.history_witness.specs.TakenLines.{taken_in}
use Rattle.history_witness.proofs.slices.is_slice.Given as goal

abbrev pub invariant-loop-place : goal.invariant-loop-place
invariant-loop-place l = (i : ℕ) (call : TimedCall) → i < l.place → slice_get l.calls i ≡ Some call → taken_in l.taken i ≡ true
    → TakesNewAndFree (map plain_call l.calls) (taken_in l.taken) (cell_at (plain_call call))
    × TakesStores (map plain_call l.calls) (taken_in l.taken) (plain_call call)
