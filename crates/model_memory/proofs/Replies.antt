-- How far memory and command determine a reply.
use Rattle.std.proofs.Common.{◌≡◌, ℕ, ◌<◌, ◌≤◌, false, ◌&&◌, nat_le, Result, Ok, Err, refl, sym, ◌∙◌, arith, ◌⊎◌, inl, inr}
use Rattle.std.proofs.lemmas.Bool.Decides.{nat_tests}
use Rattle.model_memory.specs.Memory.{Memory}
use Rattle.model_memory.specs.Plain.{Follows, IsNewRefusal, PlainStep, plain}
use Rattle.model_memory.specs.StepLaws.{asks_for_room}
use Rattle.model_words.specs.declared.commands.Command.{Command}
use Rattle.model_words.specs.declared.commands.Command.TheVariants.{New, Put, Get, Free, Alias, Addr, Peek, Poke, Copy as CopyBytes}
use Rattle.model_words.specs.declared.commands.Reply.{Reply}
use Rattle.model_words.specs.declared.commands.Reply.TheVariants.{Object as Made, Refused}
use Rattle.model_words.specs.declared.refusals.Refusal.{Refusal}
use Rattle.model_words.specs.declared.refusals.Refusal.TheVariants.{Zero, TooLarge, NoPages, NoAddresses}

-- a result is followed by one reply
one_follows : (r : Result (Reply × Memory) Refusal) (m n n' : Memory) (reply reply' : Reply) → Follows r m reply n → Follows r m reply' n' → reply ≡ reply'
one_follows (Ok x) m n n' reply reply' h h' = h.0 ∙ sym h'.0
one_follows (Err e) m n n' reply reply' h h' = h.0 ∙ sym h'.0

-- a length that may have room is between the bounds
pub not_between : (len : ℕ) → (nat_le 1 len && nat_le len 2048) ≡ false → 1 ≤ len → len ≤ 2048 → ⊥
not_between len h low high = grind (arith, nat_tests)

-- a length without room is refused for being none, or too large
pub refused_by_length : (len : ℕ) (refusal : Refusal) → (nat_le 1 len && nat_le len 2048) ≡ false → IsNewRefusal len refusal
    → ((len ≡ 0) × (refusal ≡ Zero)) ⊎ ((2048 < len) × (refusal ≡ TooLarge))
refused_by_length len Zero h is = inl (is, refl)
refused_by_length len TooLarge h is = inr (is, refl)
refused_by_length len NoPages h is = absurd (not_between len h is.0 is.1)
refused_by_length len NoAddresses h is = absurd (not_between len h is.0 is.1)
refused_by_length len _ h is = absurd is

-- a `new` of a length without room has one reply
one_new : (m : Memory) (cell len word : ℕ) (reply reply' : Reply) (n n' : Memory) → (nat_le 1 len && nat_le len 2048) ≡ false
    → PlainStep m (New cell len word) reply n → PlainStep m (New cell len word) reply' n' → reply ≡ reply'
one_new m cell len word (Made serial address) reply' n n' h step step' = absurd (not_between len h step.0 step.1)
one_new m cell len word (Refused refusal) (Made serial address) n n' h step step' = absurd (not_between len h step'.0 step'.1)
one_new m cell len word (Refused refusal) (Refused refusal') n n' h step step' =
    grind (arith, nat_tests, refused_by_length len refusal h step.0, refused_by_length len refusal' h step'.0)
one_new m cell len word (Refused refusal) _ n n' h step step' = absurd step'
one_new m cell len word _ reply' n n' h step step' = absurd step

-- memory and command determine the reply, but for a `new` that may have room
pub one_reply : (m : Memory) (command : Command) (reply reply' : Reply) (n n' : Memory) → asks_for_room command ≡ false → PlainStep m command reply n
    → PlainStep m command reply' n' → reply ≡ reply'
one_reply m (New cell len word) reply reply' n n' h step step' = one_new m cell len word reply reply' n n' h step step'
one_reply m (Put cell off bytes) reply reply' n n' h step step' = one_follows (plain m 0 (Put cell off bytes)) m n n' reply reply' step step'
one_reply m (Get cell off len) reply reply' n n' h step step' = one_follows (plain m 0 (Get cell off len)) m n n' reply reply' step step'
one_reply m (Free cell) reply reply' n n' h step step' = one_follows (plain m 0 (Free cell)) m n n' reply reply' step step'
one_reply m (Alias to from) reply reply' n n' h step step' = one_follows (plain m 0 (Alias to from)) m n n' reply reply' step step'
one_reply m (Addr cell) reply reply' n n' h step step' = one_follows (plain m 0 (Addr cell)) m n n' reply reply' step step'
one_reply m (Peek place) reply reply' n n' h step step' = one_follows (plain m 0 (Peek place)) m n n' reply reply' step step'
one_reply m (Poke place byte) reply reply' n n' h step step' = one_follows (plain m 0 (Poke place byte)) m n n' reply reply' step step'
one_reply m (CopyBytes to to_off from from_off len) reply reply' n n' h step step' =
    one_follows (plain m 0 (CopyBytes to to_off from from_off len)) m n n' reply reply' step step'
