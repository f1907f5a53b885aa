-- What is found of an entry.
use Rattle.std.proofs.Common.{◌≡◌, ◌≢◌, ℕ, true, false, ap, refl, sym, ◌∙◌, subst, Option, Some, None, Result, Ok, Err}
use Rattle.std.specs.Prelude.{IfErr, IfOk, IfSome, IsNone, OnOk}
use Rattle.std.specs.declared.alloc.AllocError.{AllocError}
use Rattle.model_memory.specs.Memory.{Memory}
use Rattle.model_memory.specs.Plain.{Follows, plain}
use Rattle.model_history.specs.Recorded.{Recorded, RecordedStep, any_allocator}
use Rattle.model_words.specs.declared.commands.Command.{Command}
use Rattle.model_words.specs.declared.commands.Command.TheVariants.{New}
use Rattle.model_words.specs.declared.commands.Reply.{Reply}
use Rattle.model_words.specs.declared.commands.Reply.TheVariants.{Done, Refused}
use Rattle.model_words.specs.declared.refusals.Refusal.{Refusal}
use Rattle.text_words.specs.RecordedWords.{plain_reply}
use Rattle.text_words.specs.declared.recorded.RecordedReply.{RecordedReply}
use Rattle.history_in_order.specs.Judged.{IsAnswered, IsTold, IsWrong, is_new}
use Rattle.history_in_order.specs.Reasons.{IsByte, IsDifference, IsOnly, Tells, is_refusal}
use Rattle.history_in_order.specs.Stands.{IsDone, IsRefused, Stands, with_memory}
use Rattle.history_in_order.specs.declared.faults.CommandError.{CommandError}
use Rattle.history_in_order.specs.declared.faults.CommandError.TheVariants.{Refused as IsRefusedSo, Memory as OfMemory}
use Rattle.history_in_order.specs.declared.memory.Tracked.{Tracked}
use Rattle.history_in_order.specs.declared.reasons.DifferentByte.{DifferentByte}
use Rattle.history_in_order.specs.declared.reasons.Reason.{Reason}
use Rattle.history_in_order.specs.declared.reasons.Reason.TheVariants.{Differs, LiveRefused}

-- a recorded step that is no `new` follows what the plain memory does
step_follows : (r : Recorded) (command : Command) (reply : Reply) (n : Recorded) → is_new command ≡ false → RecordedStep any_allocator r command reply n
    → Follows (plain r.memory 0 command) r.memory reply n.memory
step_follows r (New cell len word) reply n other step = absurd (cc other)
step_follows r command reply n other step = step.0

-- what the plain memory does at a command that is no `new` is a recorded step
follows_step : (r : Recorded) (command : Command) (reply : Reply) (m : Memory) → is_new command ≡ false → Follows (plain r.memory 0 command) r.memory reply m
    → RecordedStep any_allocator r command reply (with_memory r m)
follows_step r (New cell len word) reply m other follows = absurd (cc other)
follows_step r command reply m other follows = (follows, refl)

-- one reply follows a result
one_reply : (x : Result (Reply × Memory) Refusal) (m : Memory) (reply other : Reply) (n k : Memory) → Follows x m reply n → Follows x m other k → reply ≡ other
one_reply (Ok x) m reply other n k first second = first.0 ∙ sym second.0
one_reply (Err refusal) m reply other n k first second = first.0 ∙ sym second.0

-- what is told of a command that is done or refused is its answer
pub told_done : (old new : Tracked) (command : Command) (outcome : Result (Unit {0}) CommandError) (told : Result RecordedReply AllocError)
    → OnOk outcome (IsDone old new command) → IfErr outcome (IsRefused old new command) → IsTold outcome told
    → IfOk told (λ reply. IsAnswered old new command (plain_reply reply))
told_done old new command (Ok x) (Ok reply) done refused told = λ r st.
    let after = done r st in (
      after.0,
      subst (λ (a : RecordedReply). Follows (plain r.memory 0 command) r.memory (plain_reply a) after.0) (sym told)
          (subst (λ (x : Result (Reply × Memory) Refusal). Follows x r.memory Done after.0) (sym after.1) (refl, refl)),
      after.2,
    )
told_done old new command (Err (IsRefusedSo refusal)) (Ok reply) done refused told = λ r st. (
  r.memory,
  subst (λ (a : RecordedReply). Follows (plain r.memory 0 command) r.memory (plain_reply a) r.memory) (sym told)
      (subst (λ (x : Result (Reply × Memory) Refusal). Follows x r.memory (Refused refusal) r.memory) (sym (refused.1 r st)) (refl, refl)),
  subst (λ (m : Tracked). Stands m r) (sym refused.0) st,
)
told_done old new command (Err OfMemory) (Ok reply) done refused told = absurd told
told_done old new command outcome (Err error) done refused told = tt

-- an answer is wrong that is not the plain memory's
pub wrong_answer : (old new : Tracked) (command : Command) (reply wanted : Reply) → is_new command ≡ false → IsAnswered old new command wanted → reply ≢ wanted
    → IsWrong old command reply
wrong_answer old new command reply wanted other answered differs r st n step =
    let right = answered r st in
    differs (one_reply (plain r.memory 0 command) r.memory reply wanted n.memory right.0 (step_follows r command reply n other step) right.1)

-- the plain memory's answer is the only one
only_answer : (old new : Tracked) (command : Command) (wanted : Reply) → is_new command ≡ false → IsAnswered old new command wanted
    → (r : Recorded) → Stands old r → IsOnly r command wanted
only_answer old new command wanted other answered r st =
    let right = answered r st in record {
      some = (with_memory r right.0, follows_step r command wanted right.0 other right.1);
      one = λ reply n step. one_reply (plain r.memory 0 command) r.memory reply wanted n.memory right.0 (step_follows r command reply n other step) right.1;
    }

-- what is told of an answer that is not the plain memory's
pub told_answer : (old new : Tracked) (command : Command) (answered wanted : RecordedReply) (byte : Option DifferentByte) (reason : Reason) → is_new command ≡ false
    → IsAnswered old new command (plain_reply wanted) → ((r : Recorded) → Stands old r → IsByte r command (plain_reply answered) (plain_reply wanted) byte)
    → IsDifference answered wanted byte reason → Tells old command (plain_reply answered) reason
told_answer old new command answered wanted byte (Differs difference) other told bytes is = λ r st. (
  ap (λ (a : RecordedReply). plain_reply a) is.0,
  subst (λ (a : RecordedReply). IsOnly r command (plain_reply a)) (sym is.1) (only_answer old new command (plain_reply wanted) other told r st),
  subst (λ (a : RecordedReply). is_refusal (plain_reply answered) ≡ true → is_refusal (plain_reply a) ≡ true) (sym is.1) is.3,
  subst (λ (b : Option DifferentByte). IsByte r command (plain_reply answered) (plain_reply difference.wanted) b) (sym is.2)
      (subst (λ (a : RecordedReply). IsByte r command (plain_reply answered) (plain_reply a) byte) (sym is.1) (bytes r st)),
)
told_answer old new command answered wanted byte (LiveRefused refusal) other told bytes is = λ r st. (
  ap (λ (a : RecordedReply). plain_reply a) is.0,
  subst (λ (a : RecordedReply). IsOnly r command (plain_reply a)) (sym is.1) (only_answer old new command (plain_reply wanted) other told r st),
  is.2,
  subst (λ (a : RecordedReply). is_refusal (plain_reply a) ≡ false) (sym is.1) is.3,
)
told_answer old new command answered wanted byte reason other told bytes is = absurd is

-- what is found for any word is found for one
pub none_for_one : {X E : Type 0} (P : ℕ → Type 0) (found : Result (Option X) E) (word : ℕ) → IfOk found (λ reason. IsNone reason → (word : ℕ) → P word)
    → IfOk found (λ reason. IsNone reason → P word)
none_for_one P (Ok reason) word h = λ none. h none word
none_for_one P (Err error) word h = tt

pub some_for_one : {X E : Type 0} (P : X → ℕ → Type 0) (found : Result (Option X) E) (word : ℕ) → IfOk found (λ reason. IfSome reason (λ why. (word : ℕ) → P why word))
    → IfOk found (λ reason. IfSome reason (λ why. P why word))
some_for_one P (Ok None) word h = tt
some_for_one P (Ok (Some reason)) word h = h word
some_for_one P (Err error) word h = tt
