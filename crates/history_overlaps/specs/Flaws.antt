-- Answers that no allocator may give.
use Rattle.std.specs.Prelude.{◌≡◌, ◌≢◌, ℕ, ◌≤◌, List, Some}
use Rattle.model_words.specs.declared.refusals.Refusal.{Refusal}
use Rattle.model_intervals.specs.Intervals.{Call}
use Rattle.model_intervals.specs.Objects.{Object, IsFairNew, IsMadeAt, Meet, object_made}
use Rattle.model_intervals.specs.OverlappingCalls.{IsAt, IsNew}
use Rattle.text_words.specs.RecordedWords.{plain_reply}
use Rattle.text_words.specs.declared.recorded.RecordedReply.{RecordedReply}
use Rattle.text_words.specs.declared.recorded.RecordedReply.TheVariants.{Refused}
use Rattle.history_overlaps.specs.Lives.{NoneFrees}
use Rattle.history_overlaps.specs.Possible.{IsUnexplainedCall}
use Rattle.history_overlaps.specs.declared.flaws.Flaw.{Flaw}
use Rattle.history_overlaps.specs.declared.flaws.Flaw.TheVariants.{SerialAgain, NoByte, StrangeRefusal, Overlaps, NoOrder}

-- the call made an object, and the call at another place made one with the same serial and ended no later
pub record IsSerialAgain (calls : List Call) (number : ℕ) (call : Call) : Type 0 where
  pub object : Object
  pub makes : object_made call.entry.command call.entry.reply ≡ Some object
  pub place : ℕ
  pub other : Call
  pub earlier : Object
  pub made : IsMadeAt calls place other earlier
  pub apart : place ≢ number
  pub same : earlier.serial ≡ object.serial
  pub ended : other.end ≤ call.end

-- the call made an object that has an address in common with the object that the call at `place` made. That object has
-- this serial, its `new` ended no later, and no call frees it
pub record IsOverlapping (calls : List Call) (call : Call) (serial place : ℕ) : Type 0 where
  pub object : Object
  pub makes : object_made call.entry.command call.entry.reply ≡ Some object
  pub other : Call
  pub earlier : Object
  pub made : IsMadeAt calls place other earlier
  pub named : earlier.serial ≡ serial
  pub meet : Meet earlier object
  pub ended : other.end ≤ call.end
  pub unfreed : NoneFrees calls earlier.cell

-- the call is a `new`, and no allocator gives this answer for its length
pub record IsUnfair (call : Call) (answer : RecordedReply) : Type 0 where
  pub is_new : IsNew call.entry.command
  pub answers : call.entry.reply ≡ plain_reply answer
  pub unfair : IsFairNew call.entry.command call.entry.reply → ⊥

-- the answer of this call, which is at the place `number`, has the flaw
abbrev pub IsFlawOf : List Call → ℕ → Call → Flaw → Type 0
IsFlawOf calls number call SerialAgain = IsSerialAgain calls number call
IsFlawOf calls number call (NoByte answer) = IsUnfair call answer
IsFlawOf calls number call (StrangeRefusal refusal) = IsUnfair call (Refused refusal)
IsFlawOf calls number call (Overlaps serial place) = IsOverlapping calls call serial place
IsFlawOf calls number call (NoOrder unexplained) = IsUnexplainedCall calls call unexplained

-- the answer of the call at this place has the flaw
abbrev pub IsFlawAt : List Call → ℕ → Flaw → Type 0
IsFlawAt calls number flaw = (call : Call) × IsAt calls number call × IsFlawOf calls number call flaw

-- the flaw is that of a `new` that was refused for this reason
abbrev pub IsRefusalFlaw : Refusal → Flaw → Type 0
IsRefusalFlaw refusal (NoByte answer) = answer ≡ Refused refusal
IsRefusalFlaw refusal (StrangeRefusal told) = told ≡ refusal
IsRefusalFlaw refusal flaw = ⊥
