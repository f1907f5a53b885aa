-- The lowest refusal that holds is replied in a plain step.
use Rattle.std.proofs.lemmas.Bool.Decides.{nat_tests}
use Rattle.std.proofs.Common.{◌≡◌, ℕ, false, ap, refl, sym, ◌∙◌, arith, inl, inr, Result, Ok, Err}
use Rattle.model_words.proofs.Chains.{went_on}
use Rattle.model_words.proofs.LowestRefusals.{Told, ToldReply, replied_by}
use Rattle.model_memory.proofs.RefusedCommands.{Said, length_from, plain_told}
use Rattle.model_memory.proofs.Replies.{not_between, refused_by_length}
use Rattle.model_words.specs.Replies.{is_refusal, IsRepliedBy}
use Rattle.model_memory.specs.Memory.{Memory}
use Rattle.model_memory.specs.Plain.{Follows, PlainStep, holding, named_by, plain}
use Rattle.model_memory.specs.RefusalLaws.{length_holds, plain_holds}
use Rattle.model_memory.specs.StepLaws.{asks_for_room}
use Rattle.model_words.specs.declared.commands.Command.{Command}
use Rattle.model_words.specs.declared.commands.Command.TheVariants.{Addr, Alias, Copy as CopyBytes, Free, Get, New, Peek, Poke, Put}
use Rattle.model_words.specs.declared.commands.Reply.{Reply}
use Rattle.model_words.specs.declared.commands.Reply.TheVariants.{Object as Made, Done, Refused}
use Rattle.model_words.specs.declared.refusals.Refusal.{Refusal}

-- a result of that
abbrev said : Reply → Memory → Result Said Refusal
said reply n = Ok (reply, n)

-- what is said is no refusal where its reply is none
unrefused : (reply : Reply) (n : Memory) (x : Said) → said reply n ≡ Ok x → is_refusal reply ≡ false → is_refusal x.0 ≡ false
unrefused reply n x h is = let same : (reply, n) ≡ x = cc h in ap (λ (y : Said). is_refusal y.0) (sym same) ∙ is

-- what the plain memory replies where it doesn't refuse is no refusal
plain_replies : (m : Memory) (address : ℕ) (command : Command) (x : Said) → plain m address command ≡ Ok x → is_refusal x.0 ≡ false
plain_replies m address (New cell len word) x h = grind arith
plain_replies m address (Put cell off bytes) x h = grind arith
plain_replies m address (Get cell off len) x h = grind arith
plain_replies m address (Free cell) x h = grind (arith, nat_tests, went_on (named_by m cell) _ x h, unrefused Done)
plain_replies m address (Alias to from) x h = grind (arith, nat_tests, went_on (named_by m from) _ x h, unrefused Done)
plain_replies m address (Addr cell) x h = grind (arith, nat_tests, went_on (named_by m cell) _ x h, unrefused)
plain_replies m address (Peek place) x h = grind (arith, nat_tests, went_on (holding m place) _ x h, unrefused)
plain_replies m address (Poke place byte) x h = grind (arith, nat_tests, went_on (holding m place) _ x h, unrefused Done)
plain_replies m address (CopyBytes to to_off from from_off len) x h = grind arith

-- a reply that follows what is told is told
follows_told : (holds : Refusal → Type 0) (r : Result Said Refusal) (m n : Memory) (reply : Reply) → Follows r m reply n → Told Said holds r
    → ((x : Said) → r ≡ Ok x → is_refusal x.0 ≡ false) → ToldReply holds reply
follows_told holds (Ok x) m n reply h (inl done) replies = inl (ap is_refusal h.0 ∙ replies x refl, done.2)
follows_told holds (Ok x) m n reply h (inr low) replies = absurd (let clash : ◌≡◌ {A = Result Said Refusal} (Ok x) (Err low.0) = low.1 in cc clash)
follows_told holds (Err e) m n reply h (inl done) replies = absurd (let clash : ◌≡◌ {A = Result Said Refusal} (Err e) (Ok done.0) = done.1 in cc clash)
follows_told holds (Err e) m n reply h (inr low) replies = grind (arith, nat_tests, Said)

-- a command that follows the plain memory
pub plain_follows : (m n : Memory) (command : Command) (reply : Reply) → Follows (plain m 0 command) m reply n → ToldReply (plain_holds m command) reply
plain_follows m n command reply h =
    follows_told (plain_holds m command) (plain m 0 command) m n reply h (plain_told m 0 command) (plain_replies m 0 command)

-- a plain step of a `new` that has no room
new_step_told : (m n : Memory) (cell len word : ℕ) (reply : Reply) → asks_for_room (New cell len word) ≡ false → PlainStep m (New cell len word) reply n
    → ToldReply (length_holds len) reply
new_step_told m n cell len word (Made serial address) no_room step = absurd (not_between len no_room step.0 step.1)
new_step_told m n cell len word (Refused refusal) no_room step =
    grind (arith, nat_tests, refused_by_length len refusal no_room step.0, length_from len 1, length_from len 2)
new_step_told m n cell len word _ no_room step = absurd step

-- a plain step replies the lowest, but for a `new` that may have room
pub step_lowest : (m n : Memory) (command : Command) (reply : Reply) → asks_for_room command ≡ false → PlainStep m command reply n
    → IsRepliedBy (plain_holds m command) reply
step_lowest m n (New cell len word) reply no_room step = replied_by (length_holds len) reply (new_step_told m n cell len word reply no_room step)
step_lowest m n (Put cell off bytes) reply no_room step = replied_by _ reply (plain_follows m n (Put cell off bytes) reply step)
step_lowest m n (Get cell off len) reply no_room step = replied_by _ reply (plain_follows m n (Get cell off len) reply step)
step_lowest m n (Free cell) reply no_room step = replied_by _ reply (plain_follows m n (Free cell) reply step)
step_lowest m n (Alias to from) reply no_room step = replied_by _ reply (plain_follows m n (Alias to from) reply step)
step_lowest m n (Addr cell) reply no_room step = replied_by _ reply (plain_follows m n (Addr cell) reply step)
step_lowest m n (Peek place) reply no_room step = replied_by _ reply (plain_follows m n (Peek place) reply step)
step_lowest m n (Poke place byte) reply no_room step = replied_by _ reply (plain_follows m n (Poke place byte) reply step)
step_lowest m n (CopyBytes to to_off from from_off len) reply no_room step =
    replied_by _ reply (plain_follows m n (CopyBytes to to_off from from_off len) reply step)
