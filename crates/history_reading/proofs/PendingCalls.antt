-- Calls that were pending when the recording stopped: each names one object, so the stand-in for its answer shows an
-- effect.
use Rattle.std.proofs.Common.{◌≡◌, ◌⊎◌, ℕ, inl, inr, ◌||◌, Bool, true, false, List, [], ◌∷◌, Result, Ok, Err, ap, refl, subst, sym, ◌∙◌}
use Rattle.std.specs.Prelude.{IfOk, codes, not}
use Rattle.model_intervals.specs.OverlappingCalls.{HasEffect}
use Rattle.model_jobs.specs.JobFiles.{are_same, count_in, bytes_in, number_in, one_field, three_fields, word_in}
use Rattle.model_jobs.proofs.FieldReadings.{same_by_test}
use Rattle.model_words.specs.Words.{◌>>=◌, refuse_if}
use Rattle.model_words.specs.declared.commands.Command.{Command}
use Rattle.model_words.specs.declared.commands.Command.TheVariants.{New, Put, Get, Free, Addr}
use Rattle.model_words.specs.declared.commands.Reply.{Reply}
use Rattle.model_words.specs.declared.faults.FaultKind.{FaultKind}
use Rattle.model_words.specs.declared.faults.FaultKind.TheVariants.{Word}
use Rattle.text_fields.specs.Commands.{plain_command, size_in, wide_in}
use Rattle.text_words.specs.RecordedWords.{IsNarrow, plain_reply}
use Rattle.text_words.specs.declared.recorded.RecordedReply.{RecordedReply}
use Rattle.history_reading.specs.CallFiles.{Asked, answered, call_asked_in, end_in, is_object_word, object_command_in, pending_call, unknown_reply}
use Rattle.history_reading.specs.CallWords.{IsCallRead, IsReadAsked, plain_asked}
use Rattle.history_reading.specs.HistoryFiles.{command_in}
use Rattle.history_reading.specs.declared.asked.AskedCall.{AskedCall}
use Rattle.history_reading.proofs.CallLines.{cell_below}
use Rattle.history_reading.proofs.Sizes.{sized_within}

-- the stand-in for the command's answer shows an effect
abbrev Stands : Command → Type 0
Stands command = HasEffect command (unknown_reply command)

-- the same of the command of some fields, if they have no fault
abbrev StandsIn : Result Command FaultKind → Type 0
StandsIn read = IfOk read Stands

-- what holds of the result of a second step, whatever the first step gives
then_ok : {A : Type 0} (r : Result A FaultKind) (next : A → Result Command FaultKind) → ((x : A) → StandsIn (next x)) → StandsIn (r >>= next)
then_ok (Ok x) next all = all x
then_ok (Err kind) next all = tt

-- a command of one field
of_one : {A B : Type 0} (r : Result A FaultKind) (s : A → Result B FaultKind) (make : B → Command) → ((b : B) → Stands (make b)) → StandsIn (r >>= λ f. s f >>= λ b. Ok (make b))
of_one r s make all = then_ok r (λ f. s f >>= λ b. Ok (make b)) (λ f. then_ok (s f) (λ b. Ok (make b)) all)

-- a command of three fields
of_three : {A B C D : Type 0} (r : Result A FaultKind) (s : A → Result B FaultKind) (t : A → Result C FaultKind) (u : A → Result D FaultKind) (make : B → C → D → Command)
    → ((b : B) (c : C) (d : D) → Stands (make b c d)) → StandsIn (r >>= λ f. s f >>= λ b. t f >>= λ c. u f >>= λ d. Ok (make b c d))
of_three r s t u make all = then_ok r (λ f. s f >>= λ b. t f >>= λ c. u f >>= λ d. Ok (make b c d)) (λ f.
    then_ok (s f) (λ b. t f >>= λ c. u f >>= λ d. Ok (make b c d)) (λ b.
    then_ok (t f) (λ c. u f >>= λ d. Ok (make b c d)) (λ c.
    then_ok (u f) (λ d. Ok (make b c d)) (λ d. all b c d))))

either : (a b : Bool) → (a || b) ≡ true → (a ≡ true) ⊎ (b ≡ true)
either true b is = inl refl
either false b is = inr is

-- the command of each of the five words
of_word : (word : List ℕ) (fields : List (List ℕ)) → is_object_word word ≡ true → StandsIn (command_in word fields)
of_word word fields is =
    elim (either (are_same word (codes "new") || are_same word (codes "put") || are_same word (codes "get") || are_same word (codes "free")) (are_same word (codes "addr")) is) [
      | inr addr ↦ among (codes "addr") addr (of_one (one_field fields) wide_in (λ cell. Addr cell) (λ cell. tt))
      | inl four ↦ elim (either (are_same word (codes "new") || are_same word (codes "put") || are_same word (codes "get")) (are_same word (codes "free")) four) [
        | inr free ↦ among (codes "free") free (of_one (one_field fields) wide_in (λ cell. Free cell) (λ cell. tt))
        | inl three ↦ elim (either (are_same word (codes "new") || are_same word (codes "put")) (are_same word (codes "get")) three) [
          | inr get ↦ among (codes "get") get
              (of_three (three_fields fields) (λ f. wide_in f.0) (λ f. size_in f.1) (λ f. count_in 4096 f.2) (λ cell off len. Get cell off len) (λ cell off len. tt))
          | inl two ↦ elim (either (are_same word (codes "new")) (are_same word (codes "put")) two) [
            | inr put ↦ among (codes "put") put
                (of_three (three_fields fields) (λ f. wide_in f.0) (λ f. size_in f.1) (λ f. bytes_in 4096 f.2) (λ cell off bytes. Put cell off (record { items = bytes }))
                (λ cell off bytes. tt))
            | inl new ↦ among (codes "new") new
                (of_three (three_fields fields) (λ f. wide_in f.0) (λ f. size_in f.1) (λ f. word_in f.2) (λ cell len w. New cell len w) (λ cell len w. tt))
          ]
        ]
      ]
    ]
  where
    among : (other : List ℕ) → are_same word other ≡ true → StandsIn (command_in other fields) → StandsIn (command_in word fields)
    among other same stands = subst (λ (w : List ℕ). StandsIn (command_in w fields)) (sym (same_by_test word other same)) stands

object_stands : (word : List ℕ) (fields : List (List ℕ)) → StandsIn (object_command_in word fields)
object_stands word fields = by_test (is_object_word word) refl
  where
    by_test : (b : Bool) → is_object_word word ≡ b → StandsIn (refuse_if Word (not b) >>= λ _. command_in word fields)
    by_test true is = of_word word fields is
    by_test false is = tt

-- what was asked has a command that names one object
asked_stands : (fields : List (List ℕ)) → IfOk (call_asked_in fields) (λ asked. Stands asked.command)
asked_stands [] = tt
asked_stands (worker ∷ []) = tt
asked_stands (worker ∷ begin ∷ []) = tt
asked_stands (worker ∷ begin ∷ end ∷ []) = tt
asked_stands (worker ∷ begin ∷ end ∷ word ∷ fields) =
    on (number_in 0 65535 worker) (λ asking. number_in 0 18446744073709551615 begin >>= λ from. end_in from end >>= λ to. last asking from to) (λ asking.
    on (number_in 0 18446744073709551615 begin) (λ from. end_in from end >>= λ to. last asking from to) (λ from.
    on (end_in from end) (λ to. last asking from to) (λ to. at_last asking from to (object_command_in word fields) (object_stands word fields))))
  where
    last : ℕ → ℕ → ℕ → Result Asked FaultKind
    last asking from to = object_command_in word fields >>= λ command. Ok (record { worker = asking; begin = from; end = to; command = command })

    on : {A : Type 0} (r : Result A FaultKind) (next : A → Result Asked FaultKind) → ((x : A) → IfOk (next x) (λ asked. Stands asked.command))
        → IfOk (r >>= next) (λ asked. Stands asked.command)
    on (Ok x) next all = all x
    on (Err kind) next all = tt

    at_last : (asking from to : ℕ) (read : Result Command FaultKind) → StandsIn read
        → IfOk (read >>= λ command. Ok (record { worker = asking; begin = from; end = to; command = command })) (λ (asked : Asked). Stands asked.command)
    at_last asking from to (Ok command) stands = stands
    at_last asking from to (Err kind) stands = tt

-- what was asked, and the stand-in for its answer, are a call
pub pending_read : (fields : List (List ℕ)) (asked : AskedCall) (reply : RecordedReply) → call_asked_in fields ≡ Ok (plain_asked asked) → IsReadAsked asked
    → plain_reply reply ≡ unknown_reply (plain_command asked.command) → IsNarrow reply
    → IsCallRead (pending_call fields) (Ok (record { begin = asked.begin; end = asked.end; entry = record { worker = asked.worker; command = asked.command; reply = reply } }))
pending_read fields asked reply first sound second narrow = (
  ap (λ (read : Result Asked FaultKind). read >>= λ a. Ok (answered a (unknown_reply a.command))) first
      ∙ ap (λ (r : Reply). Ok (answered (plain_asked asked) r)) (sym second),
  record {
    takes_time = sound.takes_time;
    ends = sound.ends;
    in_range = sound.in_range;
    sized = sized_within 4294967295 281474976710655 asked.command sound.within;
    narrow = narrow;
    effect = subst (λ (r : Reply). HasEffect (plain_command asked.command) r) (sym second)
        (subst (λ (read : Result Asked FaultKind). IfOk read (λ asked. Stands asked.command)) first (asked_stands fields));
    cell = cell_below asked.command sound.within;
  },
)
