-- Replies that refuse.
use Rattle.std.specs.Prelude.{Bool, true, false, ◌≡◌, ◌↔◌}
use Rattle.model_words.specs.declared.commands.Reply.{Reply}
use Rattle.model_words.specs.declared.commands.Reply.TheVariants.{Refused}
use Rattle.model_words.specs.declared.refusals.Refusal.{Refusal}
use Rattle.model_words.specs.Refusals.{IsLowest}

-- whether the reply is a refusal
abbrev pub is_refusal : Reply → Bool
is_refusal (Refused refusal) = true
is_refusal reply = false

-- the reply is a refusal if and only if that refusal is the lowest that holds, and is no refusal if and only if none
-- holds
pub record IsRepliedBy (holds : Refusal → Type 0) (reply : Reply) : Type 0 where
  pub refused : (refusal : Refusal) → (reply ≡ Refused refusal) ↔ IsLowest holds refusal
  pub done : (is_refusal reply ≡ false) ↔ ((refusal : Refusal) → ¬ holds refusal)
