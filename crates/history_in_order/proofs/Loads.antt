-- Which byte of a load's answer differs.
use Rattle.std.proofs.Common.{◌≡◌, ℕ, Bool, true, false, List, [], length, ap, refl, subst, sym, arith, Option, Some, None}
use Rattle.std.specs.Prelude.{IsNone}
use Rattle.model_memory.specs.Memory.{Memory}
use Rattle.model_memory.specs.Plain.{Follows, plain}
use Rattle.model_history.specs.Recorded.{Recorded}
use Rattle.model_words.specs.declared.commands.Command.{Command}
use Rattle.text_words.specs.RecordedWords.{plain_reply}
use Rattle.text_words.specs.declared.recorded.RecordedReply.{RecordedReply}
use Rattle.history_in_order.specs.Differences.{DifferNowhere, bytes_of}
use Rattle.history_in_order.specs.Judged.{IsAnswered}
use Rattle.history_in_order.specs.Reasons.{IsByte, is_load}
use Rattle.history_in_order.specs.Stands.{Stands}
use Rattle.history_in_order.specs.declared.memory.Tracked.{Tracked}
use Rattle.history_in_order.specs.declared.reasons.DifferentByte.{DifferentByte}

-- lists of which one is empty differ nowhere
none_differ : (xs ys : List ℕ) → ys ≡ [] → DifferNowhere xs ys
none_differ xs ys empty k in_first in_second = let none = ap (λ (zs : List ℕ). length zs) empty in absurd (omega (arith, in_second, none))

-- which byte of an answer differs, of what the trees stood for before the command
pub byte_told : (old new : Tracked) (command : Command) (answered wanted : RecordedReply) (byte : Option DifferentByte) → IsAnswered old new command (plain_reply wanted)
    → (is_load command ≡ true → new ≡ old) → (is_load command ≡ false → bytes_of (plain_reply wanted) ≡ [])
    → (is_load command ≡ true → (r : Recorded) (m : Memory) → Stands new r → Follows (plain r.memory 0 command) r.memory (plain_reply wanted) m
    → IsByte r command (plain_reply answered) (plain_reply wanted) byte)
    → (bytes_of (plain_reply wanted) ≡ [] → IsNone byte) → (r : Recorded) → Stands old r → IsByte r command (plain_reply answered) (plain_reply wanted) byte
byte_told old new command answered wanted byte told loads changes finds none r st = go (is_load command) refl
  where
    empty : (b : Option DifferentByte) → bytes_of (plain_reply wanted) ≡ [] → IsNone b → IsByte r command (plain_reply answered) (plain_reply wanted) b
    empty None is nothing = none_differ (bytes_of (plain_reply answered)) (bytes_of (plain_reply wanted)) is
    empty (Some b) is nothing = absurd (cc nothing)

    go : (b : Bool) → is_load command ≡ b → IsByte r command (plain_reply answered) (plain_reply wanted) byte
    go true is = let right = told r st in finds is r right.0 (subst (λ (t : Tracked). Stands t r) (sym (loads is)) st) right.1
    go false is = let nothing = changes is in empty byte nothing (none nothing)
