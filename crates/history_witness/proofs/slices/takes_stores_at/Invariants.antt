use Rattle.std.proofs.Common.{◌≡◌, ℕ, ◌<◌, ◌≤◌, true, Some, slice_get}
use Rattle.history_reading.specs.declared.words.TimedCall.{TimedCall}
use Rattle.text_fields.specs.Commands.{plain_command}
use Rattle.history_witness.specs.Slices.{stores_at}
use Rattle.history_witness.specs.TakenLines.{taken_in}
use Rattle.history_witness.proofs.slices.takes_stores_at.Given as goal

abbrev pub invariant-loop-place : goal.invariant-loop-place
invariant-loop-place l = (i : ℕ) (store : TimedCall) → i < l.place → slice_get l.calls i ≡ Some store
    → stores_at l.cell l.at (plain_command store.entry.command) ≡ true → store.begin ≤ l.load.end → l.latest ≤ store.end → taken_in l.taken i ≡ true
