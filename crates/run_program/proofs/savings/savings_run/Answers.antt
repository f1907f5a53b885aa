use Rattle.std.proofs.Common.{List, ℕ, subst, ◌∙◌}
use Rattle.run_program.specs.Runs.{HasTold}
use Rattle.run_program.specs.Savings.{EndsSavings, HasWrittenReport}
use Rattle.run_program.specs.Seen.{Seen, seen}
use Rattle.run_program.proofs.SavingsEnds.{stopped_ends, used_up_ends}
use Rattle.run_program.proofs.savings.savings_run.Goals as goal

pub returns-in-Ok-Some : goal.returns-in-Ok-Some
returns-in-Ok-Some g c =
    let run = c.write_report.new in
    let before = seen (g.I.Source.remaining c.devices.inside.input) (g.O.Sink.written c.devices.inside.output) (g.E.Sink.written c.devices.inside.errors)
    (g.I.Source.has_failed c.devices.inside.input) (g.O.Sink.has_failed c.devices.inside.output) (g.E.Sink.has_failed c.devices.inside.errors) in
    let after = seen (g.I.Source.remaining run.input) (g.O.Sink.written run.output) (g.E.Sink.written c.tell.new.sink)
    (g.I.Source.has_failed run.input) (g.O.Sink.has_failed run.output) (g.E.Sink.has_failed c.tell.new.sink) in
    let told = subst (λ (text : List ℕ). HasTold after.errors_failed before.told after.told text) (c.as_slice.ensures.value ∙ c.used_up_line.ensures) c.tell.ensures in
    let written = subst (HasWrittenReport c.options_of-options.result before.left after.left before.written after.written) c.in-Ok-Some.field-0-is
    c.in-Ok-Some.ensures.written in
    rw (← c.options_of-options.ensures) (subst (λ (s : Seen). EndsSavings c.options_of-options.result s after 4) c.devices.view_is
    (used_up_ends c.options_of-options.result before after c.in-Ok-Some.call written
    (record { input = c.in-Ok-Some.ensures.ok.0; output = c.in-Ok-Some.ensures.ok.1 }) told))

pub returns-in-Err : goal.returns-in-Err
returns-in-Err g c =
    let run = c.write_report.new in
    let before = seen (g.I.Source.remaining c.devices.inside.input) (g.O.Sink.written c.devices.inside.output) (g.E.Sink.written c.devices.inside.errors)
    (g.I.Source.has_failed c.devices.inside.input) (g.O.Sink.has_failed c.devices.inside.output) (g.E.Sink.has_failed c.devices.inside.errors) in
    let after = seen (g.I.Source.remaining run.input) (g.O.Sink.written run.output) (g.E.Sink.written c.tell-in-Err.new.sink)
    (g.I.Source.has_failed run.input) (g.O.Sink.has_failed run.output) (g.E.Sink.has_failed c.tell-in-Err.new.sink) in
    let told = subst (λ (text : List ℕ). HasTold after.errors_failed before.told after.told text) (c.as_slice-in-Err.ensures.value ∙ c.savings_line_of.ensures)
    c.tell-in-Err.ensures in
    rw (← c.options_of-options.ensures) (subst (λ (s : Seen). EndsSavings c.options_of-options.result s after c.savings_status_of.result) c.devices.view_is
    (stopped_ends c.options_of-options.result before after c.in-Err.error c.savings_status_of.result c.savings_status_of.ensures c.in-Err.ensures.stopped
    c.in-Err.ensures.failed told))
