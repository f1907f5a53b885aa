use Rattle.std.proofs.Common.{◌≡◌, ℕ, ◌<◌, true, Some, slice_get}
use Rattle.history_reading.specs.declared.words.TimedCall.{TimedCall}
use Rattle.text_fields.specs.Commands.{plain_command}
use Rattle.history_witness.specs.Slices.{is_new_or_free}
use Rattle.history_witness.specs.TakenLines.{taken_in}
use Rattle.history_witness.proofs.slices.takes_new_and_free.Given as goal

abbrev pub invariant-loop-place : goal.invariant-loop-place
invariant-loop-place l = (i : ℕ) (call : TimedCall) → i < l.place → slice_get l.calls i ≡ Some call
    → is_new_or_free l.cell (plain_command call.entry.command) ≡ true → taken_in l.taken i ≡ true
