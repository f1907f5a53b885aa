use Rattle.std.proofs.Common.{ap, subst, sym, ◌∙◌}
use Rattle.std.specs.Io.KnownBytes.{prepend_known}
use Rattle.run_program.specs.Checks.{EndsCheck}
use Rattle.run_program.specs.Dispatches.{with_inspected}
use Rattle.run_program.specs.Seen.{Seen}
use Rattle.run_program.proofs.Dispatched.{same_devices, uninspected}
use Rattle.run_program.proofs.dispatch.judge.Goals as goal

pub returns : goal.returns
returns g c =
    let opened = c.new.ensures in
    let parts = c.into_parts-input.ensures in
    let made = c.new-devices.ensures in
    let begun = c.into_parts-begun.result.0 in
    let left = c.into_parts-begun.ensures in
    let remade = c.new-2.ensures in
    let inner = c.into_inner.ensures in
    let inspected = begun.begun.items in
    let before = c.new-devices.result in
    let after = c.check_run-status.new.devices in
    let ended = with_inspected inspected c.new-2.result in
    let begins = same_devices before c.args.devices
    (made.input.0 ∙ uninspected c.new.result.begun.items (g.I.Source.remaining c.new.result.inner) c.args.devices.left opened.unread
    (ap (λ s. g.I.Source.remaining s) opened.inner ∙ parts.input.0))
    (made.output.0 ∙ parts.output.0) (made.errors.0 ∙ parts.errors.0)
    (made.input.1 ∙ ap (λ s. g.I.Source.has_failed s) opened.inner ∙ parts.input.1)
    (made.output.1 ∙ parts.output.1) (made.errors.1 ∙ parts.errors.1) in
    let ends = same_devices after ended
    (sym left.input.0 ∙ ap (λ known. prepend_known inspected known) (sym (remade.input.0 ∙ ap (λ s. g.I.Source.remaining s) inner)))
    (sym left.output.0 ∙ sym remade.output.0) (sym left.errors.0 ∙ sym remade.errors.0)
    (sym left.input.1 ∙ sym (remade.input.1 ∙ ap (λ s. g.I.Source.has_failed s) inner))
    (sym left.output.1 ∙ sym remade.output.1) (sym left.errors.1 ∙ sym remade.errors.1) in (
      inspected,
      subst (λ (s : Seen). EndsCheck c.args.most s ended c.check_run-status.result) begins
          (subst (λ (s : Seen). EndsCheck c.args.most before s c.check_run-status.result) ends c.check_run-status.ensures),
    )
