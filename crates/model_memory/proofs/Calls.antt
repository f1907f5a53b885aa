-- Two calls are one or not.
use Rattle.std.proofs.Common.{arith, ◌≡◌, ◌≢◌, ℕ, List, [], ◌∷◌, ap, refl, sym, ◌∙◌, ◌⊎◌, inl, inr}
use Rattle.std.proofs.lemmas.Bool.Decides.{nat_tests}
use Rattle.model_memory.specs.Codes.{command_back, command_numbers, command_of, reply_back, reply_numbers, reply_of}
use Rattle.model_memory.specs.Seats.{Call}
use Rattle.model_words.specs.declared.commands.Command.{Command}
use Rattle.model_words.specs.declared.commands.Reply.{Reply}

-- two lists of numbers are one or not
same_numbers : (xs ys : List ℕ) → (xs ≡ ys) ⊎ (xs ≢ ys)
same_numbers [] [] = inl refl
same_numbers [] (y ∷ ys) = inr (λ e. cc e)
same_numbers (x ∷ xs) [] = inr (λ e. cc e)
same_numbers (x ∷ xs) (y ∷ ys) = grind (arith, nat_tests, same_numbers xs ys)

-- two commands are one or not
same_command : (x y : Command) → (x ≡ y) ⊎ (x ≢ y)
same_command x y = elim (same_numbers (command_numbers x) (command_numbers y)) [
  | inl same ↦ inl (sym (command_back x) ∙ ap command_of same ∙ command_back y)
  | inr other ↦ inr (λ e. other (ap command_numbers e))
]

-- two replies are one or not
same_reply : (x y : Reply) → (x ≡ y) ⊎ (x ≢ y)
same_reply x y = elim (same_numbers (reply_numbers x) (reply_numbers y)) [
  | inl same ↦ inl (sym (reply_back x) ∙ ap reply_of same ∙ reply_back y)
  | inr other ↦ inr (λ e. other (ap reply_numbers e))
]

-- the call of a command and a reply
abbrev call : Command → Reply → Call
call command reply = record { command = command; reply = reply }

-- two calls are one where their commands and replies are
call_of : (x y : Call) → x.command ≡ y.command → x.reply ≡ y.reply → x ≡ y
call_of x y command reply = grind (arith, nat_tests, call x.command x.reply, call y.command x.reply, call, call y.command y.reply, call y.command)

-- two calls are one or not
pub same_call : (x y : Call) → (x ≡ y) ⊎ (x ≢ y)
same_call x y = grind (arith, nat_tests, same_command x.command y.command, call, same_reply x.reply y.reply, call_of x y)
