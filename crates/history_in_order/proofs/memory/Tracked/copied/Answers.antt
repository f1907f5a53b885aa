use Rattle.std.proofs.Common.{◌≡◌, Err, ap, sym, arith, ◌∙◌}
use Rattle.model_memory.specs.Plain.{plain}
use Rattle.model_words.specs.declared.commands.Command.TheVariants.{Copy as CopyBytes}
use Rattle.model_words.specs.declared.refusals.Refusal.{Refusal}
use Rattle.model_history.specs.Recorded.{Recorded}
use Rattle.history_reading.proofs.Readings.{handed_on}
use Rattle.history_in_order.specs.Stands.{Stands}
use Rattle.history_in_order.proofs.Commands.{copy_done, copy_freed_from, copy_freed_to, inside, range_length}
use Rattle.history_in_order.proofs.Roots.{held_root, object_is, root_is}
use Rattle.history_in_order.proofs.memory.Tracked.copied.Goals as goal

pub returns-in_err-number-clause-refusal : goal.returns-in_err-number-clause-refusal
returns-in_err-number-clause-refusal c =
    handed_on c.from_residual-in_err-number.result c.in_err-number.field-0.0
    (λ refusal. (r : Recorded) → Stands c.args.self.now r
    → plain r.memory 0 (CopyBytes c.args.to.0 c.args.to.1 c.args.from.0 c.args.from.1 c.args.len) ≡ Err refusal) c.from_residual-in_err-number.ensures.1
    (λ r st.
    let to = root_is c.args.self.now r c.args.to.0 c.in_ok-target.target st c.in_ok-target.ensures.held in
    let from = root_is c.args.self.now r c.args.from.0 c.in_ok-source.source st c.in_ok-source.ensures.held in
    copy_freed_to r.memory c.args.to.0 c.args.to.1 c.args.from.0 c.args.from.1 c.args.len _ _ to.is_there from.is_there (to.gone c.in_err-number.ensures.none)
    ∙ ap (λ (e : Refusal). Err e) (sym c.in_err-number.ensures.refusal))

pub returns-in_err-out_of-clause-refusal : goal.returns-in_err-out_of-clause-refusal
returns-in_err-out_of-clause-refusal c =
    handed_on c.from_residual-in_err-out_of.result c.in_err-out_of.field-0.0
    (λ refusal. (r : Recorded) → Stands c.args.self.now r
    → plain r.memory 0 (CopyBytes c.args.to.0 c.args.to.1 c.args.from.0 c.args.from.1 c.args.len) ≡ Err refusal) c.from_residual-in_err-out_of.ensures.1
    (λ r st.
    let to = held_root c.args.self.now r c.args.to.0 _ _ st c.in_ok-target.ensures.held c.in_ok-number.ensures.number in
    let from = root_is c.args.self.now r c.args.from.0 c.in_ok-source.source st c.in_ok-source.ensures.held in
    copy_freed_from r.memory c.args.to.0 c.args.to.1 c.args.from.0 c.args.from.1 c.args.len _ _ _ to from.is_there
    (object_is c.args.self.now r _ _ st c.in_ok-number.ensures.live) (from.gone c.in_err-out_of.ensures.none)
    ∙ ap (λ (e : Refusal). Err e) (sym c.in_err-out_of.ensures.refusal))

pub returns-clause-copied : goal.returns-clause-copied
returns-clause-copied c =
    let target = c.in_ok-number.number in
    let into = c.in_ok-number.into.now in
    let out_of = c.in_ok-out_of.out_of.now in
    let fits = sym c.if-ends_outside.ensures in
    let fits' = sym c.if-ends_outside-2.ensures in
    let within = inside into.object _ _ fits in (
      into,
      c.in_ok-number.ensures.live,
      omega (arith, range_length _ _ _ (inside out_of.object _ _ fits'), within),
      λ r st.
          copy_done _ _ _ _ _ _ _ _ _ _
          (held_root c.args.self.now r _ _ _ st c.in_ok-target.ensures.held c.in_ok-number.ensures.number)
          (held_root c.args.self.now r _ _ _ st c.in_ok-source.ensures.held c.in_ok-out_of.ensures.number)
          (object_is c.args.self.now r _ _ st c.in_ok-number.ensures.live) (object_is c.args.self.now r _ _ st c.in_ok-out_of.ensures.live) fits fits',
    )
