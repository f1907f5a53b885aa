-- The fields of a call, and what they are read as.
use Rattle.std.proofs.Common.{◌≡◌, ℕ, ◌<◌, ◌≤◌, true, List, [], ◌∷◌, drop, get_or, length, ap, refl, ◌∙◌, arith, Result, Ok, Err}
use Rattle.model_history.specs.Recorded.{many_cells}
use Rattle.model_intervals.specs.OverlappingCalls.{HasEffect, cell_of}
use Rattle.model_jobs.specs.JobFiles.{number_in}
use Rattle.model_words.specs.Words.{◌>>=◌}
use Rattle.model_words.specs.declared.commands.Command.{Command}
use Rattle.model_words.specs.declared.commands.Command.TheVariants.{New, Put, Get, Free, Addr}
use Rattle.model_words.specs.declared.commands.Reply.{Reply}
use Rattle.model_words.specs.declared.commands.Reply.TheVariants.{Object as Made, Done, Bytes, At, Refused}
use Rattle.model_words.specs.declared.faults.FaultKind.{FaultKind}
use Rattle.model_words.specs.declared.faults.FaultKind.TheVariants.{Word}
use Rattle.text_fields.specs.Commands.{IsWithin, plain_command}
use Rattle.text_fields.specs.Fields.{IsUnread}
use Rattle.text_fields.specs.Lines.{texts}
use Rattle.text_fields.specs.declared.commands.SpeltCommand.{SpeltCommand}
use Rattle.text_fields.specs.declared.commands.SpeltCommand.TheVariants.{New as SpeltNew, Put as SpeltPut, Get as SpeltGet, Free as SpeltFree, Alias as SpeltAlias, Addr as SpeltAddr, Peek as SpeltPeek, Poke as SpeltPoke, Copy as SpeltCopy}
use Rattle.text_fields.specs.declared.faults.LineFault.{LineFault}
use Rattle.text_fields.proofs.Unread.{unread_then}
use Rattle.history_reading.proofs.Sizes.{sized_within}
use Rattle.text_words.specs.RecordedWords.{IsNarrow, plain_reply}
use Rattle.text_words.specs.declared.recorded.RecordedReply.{RecordedReply}
use Rattle.history_reading.specs.CallFiles.{Asked, answered, call_asked_in, call_of, effect_in, end_in, has_effect, object_command_in}
use Rattle.history_reading.specs.CallWords.{IsCallRead, IsReadAsked, plain_asked}
use Rattle.history_reading.specs.declared.asked.AskedCall.{AskedCall}
use denote.Ref.{Bor}

-- fewer than four fields are no worker, no begin, no end and no word
pub none_asked : (fields : List (Bor (List ℕ))) → length fields < 4 → call_asked_in (texts fields) ≡ Err Word
none_asked [] few = refl
none_asked (a ∷ []) few = refl
none_asked (a ∷ b ∷ []) few = refl
none_asked (a ∷ b ∷ c ∷ []) few = refl
none_asked (a ∷ b ∷ c ∷ d ∷ fields) few = absurd (omega (arith, few))

-- what the test tells of a command and an answer
pub effect_of_test : (command : Command) (reply : Reply) → has_effect command reply ≡ true → HasEffect command reply
effect_of_test (New cell len word) (Made serial address) is = tt
effect_of_test (New cell len word) (Refused refusal) is = tt
effect_of_test (Put cell off bytes) Done is = tt
effect_of_test (Get cell off len) (Bytes bytes) is = tt
effect_of_test (Free cell) Done is = tt
effect_of_test (Addr cell) (At address) is = tt
effect_of_test command reply is = absurd (cc is)

pub test_of_effect : (command : Command) (reply : Reply) → HasEffect command reply → has_effect command reply ≡ true
test_of_effect (New cell len word) (Made serial address) has = refl
test_of_effect (New cell len word) (Refused refusal) has = refl
test_of_effect (Put cell off bytes) Done has = refl
test_of_effect (Get cell off len) (Bytes bytes) has = refl
test_of_effect (Free cell) Done has = refl
test_of_effect (Addr cell) (At address) has = refl
test_of_effect command reply has = absurd has

-- the cell of a command of a history has 32 bits
pub cell_below : (command : SpeltCommand) → IsWithin 4294967295 140737488355328 281474976710655 command → cell_of (plain_command command) < many_cells
unfolding many_cells
cell_below (SpeltNew cell len word) within = omega (arith, within.0)
cell_below (SpeltPut cell off bytes) within = omega (arith, within.0)
cell_below (SpeltGet cell off len) within = omega (arith, within.0)
cell_below (SpeltFree cell) within = omega (arith, within)
cell_below (SpeltAlias to from) within = omega (arith, within.0)
cell_below (SpeltAddr cell) within = omega (arith, within)
cell_below (SpeltPeek address) within = omega arith
cell_below (SpeltPoke address byte) within = omega arith
cell_below (SpeltCopy to to_off from from_off len) within = omega (arith, within.0)

-- what was asked, and its answer, are a call
pub call_read : (before behind : List (List ℕ)) (asked : AskedCall) (reply : RecordedReply) → call_asked_in before ≡ Ok (plain_asked asked) → IsReadAsked asked
    → effect_in (plain_command asked.command) behind ≡ Ok (plain_reply reply) → IsNarrow reply → has_effect (plain_command asked.command) (plain_reply reply) ≡ true
    → IsCallRead (call_of before behind) (Ok (record { begin = asked.begin; end = asked.end; entry = record { worker = asked.worker; command = asked.command; reply = reply } }))
call_read before behind asked reply first sound second narrow effect = (
  ap (λ (read : Result Asked FaultKind). read >>= λ a. effect_in a.command behind >>= λ r. Ok (answered a r)) first
      ∙ ap (λ (read : Result Reply FaultKind). read >>= λ r. Ok (answered (plain_asked asked) r)) second,
  record {
    takes_time = sound.takes_time;
    ends = sound.ends;
    in_range = sound.in_range;
    sized = sized_within 4294967295 281474976710655 asked.command sound.within;
    narrow = narrow;
    effect = effect_of_test (plain_command asked.command) (plain_reply reply) effect;
    cell = cell_below asked.command sound.within;
  },
)

-- a command that isn't read behind a worker and moments that are
pub command_unread : (fields : List (Bor (List ℕ))) (w b e c : Bor (List ℕ)) (asking from to : ℕ) (fault : LineFault) → 4 ≤ length fields
    → number_in 0 65535 (get_or fields 0 w).now ≡ Ok asking → number_in 0 18446744073709551615 (get_or fields 1 b).now ≡ Ok from
    → end_in from (get_or fields 2 e).now ≡ Ok to → IsUnread 4096 (object_command_in (get_or fields 3 c).now (texts (drop 4 fields))) fault
    → IsUnread 4096 (call_asked_in (texts fields)) fault
command_unread [] w b e c asking from to fault long worker begin end unread = absurd (omega (arith, long))
command_unread (a1 ∷ []) w b e c asking from to fault long worker begin end unread = absurd (omega (arith, long))
command_unread (a1 ∷ a2 ∷ []) w b e c asking from to fault long worker begin end unread = absurd (omega (arith, long))
command_unread (a1 ∷ a2 ∷ a3 ∷ []) w b e c asking from to fault long worker begin end unread = absurd (omega (arith, long))
command_unread (a1 ∷ a2 ∷ a3 ∷ a4 ∷ fields) w b e c asking from to fault long worker begin end unread =
    rw (worker, begin, end) (unread_then 4096 (object_command_in a4.now (texts fields)) _ fault unread)
