-- What a change's answer is to its worker.
use Rattle.std.proofs.Common.{◌≡◌, ℕ, subst, refl, sym, ◌∙◌, Result, Ok, Err, IfErr, IfOk, IsErr, OnOk, OnErr}
use Rattle.model_memory.specs.Memory.{Memory}
use Rattle.model_memory.specs.Plain.{Follows, plain}
use Rattle.model_memory.specs.Reads.{reply_in}
use Rattle.model_words.specs.declared.commands.Command.{Command}
use Rattle.model_words.specs.declared.commands.Command.TheVariants.{New, Put, Get, Free, Alias, Addr, Peek, Poke, Copy}
use Rattle.model_words.specs.declared.commands.Reply.{Reply}
use Rattle.model_words.specs.declared.commands.Reply.TheVariants.{Done}
use Rattle.model_words.specs.declared.refusals.Refusal.{Refusal}
use Rattle.mesh_plain.specs.Refusals.{IsChange, IsRefusedFor, IsRefusedOrMemory}
use Rattle.mesh_plain.specs.declared.faults.PlainFault.{PlainFault}

-- the reply that a refused step has
refused_follows : (step : Result (Reply × Memory) Refusal) (m n : Memory) (reply : Reply) → (reply ≡ reply_in step) × IsErr step → n ≡ m
    → Follows step m reply n
refused_follows (Ok x) m n reply h same = (let is = h.1 in cc)
refused_follows (Err refusal) m n reply h same = (h.0, same)

-- the address is a new object's alone
at_address : (m : Memory) (address : ℕ) (command : Command) → IsChange command → plain m 0 command ≡ plain m address command
at_address m address (New cell len word) is = absurd is
at_address m address (Put cell off bytes) is = refl
at_address m address (Get cell off len) is = refl
at_address m address (Free cell) is = refl
at_address m address (Alias to from) is = refl
at_address m address (Addr cell) is = refl
at_address m address (Peek place) is = refl
at_address m address (Poke place byte) is = refl
at_address m address (Copy to to_off from from_off len) is = refl

-- the step that a change is at any address, by what it was answered
pub change_follows : {E : Type 0} → (command : Command) (address : ℕ) (change : Result (Unit {0}) PlainFault) (reply : Result Reply E) (m n : Memory)
    → IsChange command → OnOk change (plain m 0 command ≡ Ok (Done, n)) → IfErr change (λ fault. IsRefusedFor command fault (plain m 0 command))
    → OnErr change (n ≡ m) → OnOk change (reply ≡ Ok Done)
    → IfErr change (λ fault. IfOk reply (λ r. (s : Result (Reply × Memory) Refusal) → IsRefusedOrMemory fault s → (r ≡ reply_in s) × IsErr s))
    → IfOk reply (λ r. Follows (plain m address command) m r n)
change_follows command address (Ok u) reply m n is done fault same told refused =
    subst (λ r. IfOk r (λ x. Follows (plain m address command) m x n)) (sym told)
    (subst (λ s. Follows s m Done n) (sym done ∙ at_address m address command is) (refl, refl))
change_follows command address (Err f) (Ok r) m n is done fault same told refused =
    subst (λ s. Follows s m r n) (at_address m address command is) (refused_follows (plain m 0 command) m n r (refused (plain m 0 command) fault.0) same)
change_follows command address (Err f) (Err e) m n is done fault same told refused = tt

-- what holds for each word holds for one
pub at_word : {E : Type 0} → (reply : Result Reply E) (P : ℕ → Reply → Type 0) (word : ℕ) → IfOk reply (λ r. (w : ℕ) → P w r) → IfOk reply (λ r. P word r)
at_word (Ok r) P word h = h word
at_word (Err e) P word h = tt
