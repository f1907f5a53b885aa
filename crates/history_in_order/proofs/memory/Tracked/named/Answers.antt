use Rattle.std.proofs.Common.{◌≡◌, Some, Err, ap, subst, sym, ◌∙◌}
use Rattle.model_memory.specs.Plain.{named_by}
use Rattle.model_history.specs.Recorded.{Recorded}
use Rattle.model_words.specs.declared.refusals.Refusal.{Refusal}
use Rattle.history_reading.proofs.Readings.{handed_on}
use Rattle.history_in_order.specs.Cells.{IsHeld}
use Rattle.history_in_order.specs.Stands.{Stands}
use Rattle.history_in_order.specs.declared.cells.Held.{Held}
use Rattle.history_in_order.proofs.Roots.{named_freed, named_is}
use Rattle.history_in_order.proofs.memory.Tracked.named.Goals as goal

pub returns-clause-named : goal.returns-clause-named
returns-clause-named c = λ r st.
    named_is c.args.self.now r c.args.cell c.in_ok-number.number c.in_ok-number.object.now st
    (subst (λ (h : Held). IsHeld c.args.self.now.cells c.args.cell (Some h)) c.in_ok-number.ensures.number c.in_ok-held.ensures.held) c.in_ok-number.ensures.live

pub returns-in_err-number-clause-refusal : goal.returns-in_err-number-clause-refusal
returns-in_err-number-clause-refusal c =
    handed_on c.from_residual-in_err-number.result c.in_err-number.field-0.0
    (λ refusal. (r : Recorded) → Stands c.args.self.now r → named_by r.memory c.args.cell ≡ Err refusal) c.from_residual-in_err-number.ensures.1
    (λ r st. named_freed c.args.self.now r c.args.cell c.in_ok-held.held st c.in_ok-held.ensures.held c.in_err-number.ensures.none
    ∙ ap (λ (e : Refusal). Err e) (sym c.in_err-number.ensures.refusal))
