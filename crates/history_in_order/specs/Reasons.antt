-- Why an entry is rejected.
use Rattle.std.specs.Prelude.{◌≡◌, ℕ, ◌+◌, ◌≤◌, Bool, true, false, Option, Some, None, Ok, if◌then◌else◌, nat_eq}
use Rattle.model_memory.specs.Plain.{IsVacantRange, Named, holding}
use Rattle.model_history.specs.Recorded.{Recorded, RecordedStep, any_allocator, was_given}
use Rattle.model_words.specs.declared.commands.Command.{Command}
use Rattle.model_words.specs.declared.commands.Command.TheVariants.{New, Get, Peek}
use Rattle.model_words.specs.declared.commands.Reply.{Reply}
use Rattle.model_words.specs.declared.commands.Reply.TheVariants.{Object as Made, Refused}
use Rattle.model_words.specs.declared.refusals.Refusal.TheVariants.{Zero}
use Rattle.text_words.specs.RecordedWords.{plain_reply}
use Rattle.text_words.specs.declared.recorded.RecordedReply.{RecordedReply}
use Rattle.text_words.specs.declared.recorded.RecordedReply.TheVariants.{Refused as RecordedRefused}
use Rattle.history_in_order.specs.Differences.{DifferAt, DifferNowhere, bytes_of}
use Rattle.history_in_order.specs.Stands.{IsOverlapped, Stands}
use Rattle.history_in_order.specs.declared.memory.Tracked.{Tracked}
use Rattle.history_in_order.specs.declared.reasons.DifferentByte.{DifferentByte}
use Rattle.history_in_order.specs.declared.reasons.Overlap.{Overlap}
use Rattle.history_in_order.specs.declared.reasons.Reason.{Reason}
use Rattle.history_in_order.specs.declared.reasons.Reason.TheVariants.{Differs, NoObject, LiveRefused, SerialAgain, Overlaps}

-- whether the answer is a refusal
abbrev pub is_refusal : Reply → Bool
is_refusal (Refused refusal) = true
is_refusal reply = false

-- whether the answer is an object
abbrev pub is_object : Reply → Bool
is_object (Made serial address) = true
is_object reply = false

-- whether the command loads bytes
abbrev pub is_load : Command → Bool
is_load (Get cell off len) = true
is_load (Peek address) = true
is_load command = false

-- how an answer differs from the wanted one: it refuses a command that should be done, or else it is another answer
abbrev pub IsDifference : RecordedReply → RecordedReply → Option DifferentByte → Reason → Type 0
IsDifference answered wanted byte (Differs difference) =
    (difference.answered ≡ answered) × (difference.wanted ≡ wanted) × (difference.byte ≡ byte)
    × (is_refusal (plain_reply answered) ≡ true → is_refusal (plain_reply wanted) ≡ true)
IsDifference answered wanted byte (LiveRefused refusal) =
    (refusal.answered ≡ answered) × (refusal.wanted ≡ wanted) × (is_refusal (plain_reply answered) ≡ true) × (is_refusal (plain_reply wanted) ≡ false)
IsDifference answered wanted byte reason = ⊥

-- why a `new` of `len` bytes with this answer is rejected: for 0 bytes only the refusal `Zero` would be right,
-- otherwise only an object
abbrev pub no_object : ℕ → RecordedReply → Reason
no_object len answered = if nat_eq len 0 then Differs (record { answered = answered; wanted = RecordedRefused Zero; byte = None }) else NoObject answered

-- the command may have the answer `wanted`, and no other
pub record IsOnly (r : Recorded) (command : Command) (wanted : Reply) : Type 0 where
  pub some : (n : Recorded) × RecordedStep any_allocator r command wanted n
  pub one : (reply : Reply) (n : Recorded) → RecordedStep any_allocator r command reply n → reply ≡ wanted

-- the command loads bytes from the offset `start` of an object on
abbrev pub LoadsFrom : Recorded → Command → ℕ → Type 0
LoadsFrom r (Get cell off len) start = start ≡ off
LoadsFrom r (Peek address) start = (named : Named) × (holding r.memory address ≡ Ok named) × (named.object.address + start ≡ address)
LoadsFrom r command start = ⊥

-- the byte at this offset of the object is the first at which the answer differs from the wanted one
pub record DiffersFrom (r : Recorded) (command : Command) (reply wanted : Reply) (offset : ℕ) : Type 0 where
  pub start : ℕ
  pub place : ℕ
  pub loads : LoadsFrom r command start
  pub is_offset : offset ≡ start + place
  pub first : DifferAt (bytes_of reply) (bytes_of wanted) place

-- the first byte at which the two answers differ, among the bytes that both have, or `None` if these are equal
abbrev pub IsByte : Recorded → Command → Reply → Reply → Option DifferentByte → Type 0
IsByte r command reply wanted None = DifferNowhere (bytes_of reply) (bytes_of wanted)
IsByte r command reply wanted (Some byte) = DiffersFrom r command reply wanted byte.offset

-- the command is a `new` of at least 1 byte
abbrev pub MakesSome : Command → Type 0
MakesSome (New cell len word) = 1 ≤ len
MakesSome command = ⊥

-- the answer is an object with a serial that was given before
abbrev pub IsGiven : Recorded → Reply → Type 0
IsGiven r (Made serial address) = was_given r.serials serial ≡ true
IsGiven r reply = ⊥

-- the entry is a `new` that is answered by an object with a new serial, but a live object has an address in its range
abbrev pub IsCrowded : Recorded → Command → Reply → Overlap → Type 0
IsCrowded r (New cell len word) (Made serial address) overlap =
    (was_given r.serials serial ≡ false) × (IsVacantRange r.memory address len → ⊥) × IsOverlapped r address len overlap
IsCrowded r command reply overlap = ⊥

-- what a reason claims of an entry
abbrev pub IsReason : Recorded → Command → Reply → Reason → Type 0
IsReason r command reply (Differs difference) =
    (plain_reply difference.answered ≡ reply) × IsOnly r command (plain_reply difference.wanted)
    × (is_refusal reply ≡ true → is_refusal (plain_reply difference.wanted) ≡ true)
    × IsByte r command reply (plain_reply difference.wanted) difference.byte
IsReason r command reply (NoObject answered) = (plain_reply answered ≡ reply) × MakesSome command × (is_object reply ≡ false)
IsReason r command reply (LiveRefused refusal) =
    (plain_reply refusal.answered ≡ reply) × IsOnly r command (plain_reply refusal.wanted) × (is_refusal reply ≡ true)
    × (is_refusal (plain_reply refusal.wanted) ≡ false)
IsReason r command reply SerialAgain = MakesSome command × IsGiven r reply
IsReason r command reply (Overlaps overlap) = IsCrowded r command reply overlap

-- the reason's claim holds of every recorded history that the trees represent
abbrev pub Tells : Tracked → Command → Reply → Reason → Type 0
Tells old command reply reason = (r : Recorded) → Stands old r → IsReason r command reply reason
