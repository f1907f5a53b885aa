-- The lines of a plan that lead to no state.
use Rattle.std.proofs.Common.{◌≡◌, ℕ, true, false, Option, Some, None, option_and_then, option_map, ap, refl, subst, sym, ◌∙◌}
use Rattle.model_otherwise.proofs.TimedJudged.{tried_not_begun, tried_not_ended}
use Rattle.model_otherwise.specs.States.{Setting, State, after_tried, asked, outcome_of}
use Rattle.model_otherwise.specs.Timed.{is_plain}
use Rattle.model_otherwise.specs.Tries.{Outcome, tried}
use Rattle.model_otherwise.specs.declared.tried.Tried.{Tried}
use Rattle.model_otherwise.specs.declared.tried.Tried.TheVariants.{Answered, Begun, Ended, Held, Waits, NoPage, Wrong, Overlaps, GroupGone}
use Rattle.model_words.specs.declared.commands.Command.{Command}
use Rattle.model_words.specs.declared.commands.Reply.{Reply}
use Rattle.otherwise_report.proofs.ClientMoves.{plain_outcome}
use Rattle.otherwise_report.specs.PlanStarts.{IsPlayed, attempted}

-- a command that isn't answered leads to no state
no_state : (x : Setting) (s new : State) (n : ℕ) (command : Command) (what : Tried) → what ≡ (tried x.pages s.memory s.heap command).tried
    → ((reply : Reply) → what ≡ Answered reply → ⊥) → IsPlayed (after_tried x s n (tried x.pages s.memory s.heap command) what) false new
no_state x s new n command (Answered reply) is other = absurd (other reply refl)
no_state x s new n command Begun is other = absurd (tried_not_begun x.pages s.memory s.heap command (sym is))
no_state x s new n command (Ended reply) is other = absurd (tried_not_ended x.pages s.memory s.heap command reply (sym is))
no_state x s new n command Held is other = refl
no_state x s new n command Waits is other = refl
no_state x s new n command NoPage is other = refl
no_state x s new n command (Wrong got wanted) is other = refl
no_state x s new n command (Overlaps address) is other = refl
no_state x s new n command (GroupGone group) is other = refl

-- so an attempt that isn't answered leads to none
pub unanswered : (x : Setting) (s new : State) (n : ℕ) (command : Command) (what : Tried) → is_plain x.timing ≡ true → asked x s n ≡ Some command
    → what ≡ (tried x.pages s.memory s.heap command).tried → ((reply : Reply) → what ≡ Answered reply → ⊥)
    → IsPlayed (attempted x s n (outcome_of x s n)) false new
unanswered x s new n command what whole given is other =
    let done = tried x.pages s.memory s.heap command in
    let outcome : outcome_of x s n ≡ Some done = plain_outcome x s n whole ∙ ap (option_map (tried x.pages s.memory s.heap)) given in
    subst (λ (o : Option Outcome). IsPlayed (attempted x s n o) false new) (sym outcome)
    (subst (λ (t : Tried). IsPlayed (after_tried x s n done t) false new) is (no_state x s new n command what is other))
