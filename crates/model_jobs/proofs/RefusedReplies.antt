-- The lowest refusal that holds of a command is replied, and a command is held back only where none holds.
use Rattle.std.proofs.Common.{◌≡◌, ℕ, ◌≤◌, true, false, nat_lt, refl, arith, ◌↔◌, inl, inr, Result, Ok, Err}
use Rattle.std.proofs.lemmas.Bool.Decides.{nat_tests, leb_tells}
use Rattle.model_heap.proofs.NewLengths.{new_length}
use Rattle.model_jobs.proofs.AnsweredCommands.{others_follow}
use Rattle.model_words.proofs.LowestRefusals.{Told, ToldReply, replied_by}
use Rattle.model_heap.proofs.RefusedObjects.{new_told}
use Rattle.model_jobs.specs.Jobs.{answered, is_held_back, new_answered, others_answered, table_freed, touches_read_only}
use Rattle.model_words.specs.Replies.{is_refusal, IsRepliedBy}
use Rattle.model_memory.specs.Memory.{Memory, next_serial}
use Rattle.model_memory.specs.Plain.{named_by, plain}
use Rattle.model_jobs.specs.RefusalLaws.{command_holds}
use Rattle.model_memory.specs.RefusalLaws.{plain_holds}
use Rattle.model_heap.specs.RefusalLaws.{new_holds}
use Rattle.model_heap.specs.Table.{Placed, Table, place_new}
use Rattle.model_words.specs.declared.commands.Command.{Command}
use Rattle.model_words.specs.declared.commands.Command.TheVariants.{Addr, Alias, Copy as CopyBytes, Free, Get, New, Peek, Poke, Put}
use Rattle.model_words.specs.declared.refusals.Refusal.{Refusal}
use Rattle.model_memory.proofs.RefusedReplies.{plain_follows}

-- a `new` answered is told where its place is
new_answer_told : (m : Memory) (t : Table) (cell len word : ℕ) (r : Result Placed Refusal) → place_new t len word (next_serial m) ≡ r
    → Told Placed (new_holds t len) r → ToldReply (new_holds t len) (new_answered m t (New cell len word) r).reply
new_answer_told m t cell len word (Err e) is (inl done) = grind (arith, nat_tests)
new_answer_told m t cell len word (Err e) is (inr low) = grind (arith, nat_tests)
new_answer_told m t cell len word (Ok placed) is (inr low) = grind (arith, nat_tests)
new_answer_told m t cell len word (Ok placed) is (inl done) = grind (arith, nat_tests, new_length t len word (next_serial m) placed is, within)
  where
    within : len ≤ 2048 → nat_lt 2048 len ≡ false
    within few = elim (leb_tells 2049 len) [ inl past ↦ absurd (omega (arith, past.1, few)) | inr below ↦ below.0 ]

-- another command answered
other_answer_told : (m : Memory) (t after : Table) (command : Command) → ToldReply (plain_holds m command) (others_answered m t after (plain m 0 command)).reply
other_answer_told m t after command =
    plain_follows m (others_answered m t after (plain m 0 command)).memory command (others_answered m t after (plain m 0 command)).reply
    (others_follow m t after (plain m 0 command))

-- a command is answered with the lowest
pub answer_lowest : (m : Memory) (t : Table) (command : Command) → IsRepliedBy (command_holds m t command) (answered m t command).reply
answer_lowest m t (New cell len word) =
    replied_by _ _ (new_answer_told m t cell len word (place_new t len word (next_serial m)) refl (new_told t len word (next_serial m)))
answer_lowest m t (Put cell off bytes) = replied_by _ _ (other_answer_told m t t (Put cell off bytes))
answer_lowest m t (Get cell off len) = replied_by _ _ (other_answer_told m t t (Get cell off len))
answer_lowest m t (Free cell) = replied_by _ _ (other_answer_told m t (table_freed t (named_by m cell)) (Free cell))
answer_lowest m t (Alias to from) = replied_by _ _ (other_answer_told m t t (Alias to from))
answer_lowest m t (Addr cell) = replied_by _ _ (other_answer_told m t t (Addr cell))
answer_lowest m t (Peek place) = replied_by _ _ (other_answer_told m t t (Peek place))
answer_lowest m t (Poke place byte) = replied_by _ _ (other_answer_told m t t (Poke place byte))
answer_lowest m t (CopyBytes to to_off from from_off len) = replied_by _ _ (other_answer_told m t t (CopyBytes to to_off from from_off len))

-- a command is held back exactly where no refusal holds and it touches a read-only page
pub held_back : (m : Memory) (t : Table) (command : Command) → (is_held_back m t command (answered m t command).reply ≡ true)
    ↔ (((refusal : Refusal) → ¬ command_holds m t command refusal) × (touches_read_only m t command ≡ true))
held_back m t command = (to, from)
  where
    to : is_held_back m t command (answered m t command).reply ≡ true
        → ((refusal : Refusal) → ¬ command_holds m t command refusal) × (touches_read_only m t command ≡ true)
    to h = grind (arith, nat_tests, answer_lowest m t command)

    from : ((refusal : Refusal) → ¬ command_holds m t command refusal) × (touches_read_only m t command ≡ true)
        → is_held_back m t command (answered m t command).reply ≡ true
    from both = let done : is_refusal (answered m t command).reply ≡ false = (answer_lowest m t command).done.1 both.0 in rw done both.1
