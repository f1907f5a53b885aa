use Rattle.std.proofs.Common.{List, ℕ, subst, ◌∙◌}
use Rattle.std.specs.Io.KnownBytes.{prepend_known}
use Rattle.run_program.specs.Checks.{EndsCheck}
use Rattle.run_program.specs.Runs.{HasTold}
use Rattle.run_program.specs.Seen.{Seen, seen}
use Rattle.run_program.proofs.CheckEnds.{check_ends, check_stops}
use Rattle.run_program.proofs.CertificateEnds.{keeps_same}
use Rattle.run_program.proofs.check.check_run.Goals as goal

pub returns-in-Err : goal.returns-in-Err
returns-in-Err g c =
    let was = c.devices.inside in
    let run = c.write_verdict.new in
    let before = seen (prepend_known was.input.begun.items (g.I.Source.remaining was.input.inner)) (g.O.Sink.written was.output) (g.E.Sink.written was.errors)
    (g.I.Source.has_failed was.input.inner) (g.O.Sink.has_failed was.output) (g.E.Sink.has_failed was.errors) in
    let after = seen (prepend_known run.input.begun.items (g.I.Source.remaining run.input.inner)) (g.O.Sink.written run.output) (g.E.Sink.written c.tell.new.sink)
    (g.I.Source.has_failed run.input.inner) (g.O.Sink.has_failed run.output) (g.E.Sink.has_failed c.tell.new.sink) in
    let told = subst (λ (text : List ℕ). HasTold after.errors_failed before.told after.told text) (c.as_slice.ensures.value ∙ c.check_line_of.ensures) c.tell.ensures in
    subst (λ (s : Seen). EndsCheck c.args.most s after c.status_of_check.result) c.devices.view_is
    (check_stops c.args.most before after c.in-Err.error c.status_of_check.result c.status_of_check.ensures c.in-Err.ensures.stopped c.in-Err.ensures.failed told)

pub returns-in-Ok : goal.returns-in-Ok
returns-in-Ok g c =
    let was = c.devices.inside in
    let run = c.write_verdict.new in
    let before = seen (prepend_known was.input.begun.items (g.I.Source.remaining was.input.inner)) (g.O.Sink.written was.output) (g.E.Sink.written was.errors)
    (g.I.Source.has_failed was.input.inner) (g.O.Sink.has_failed was.output) (g.E.Sink.has_failed was.errors) in
    let after = seen (prepend_known run.input.begun.items (g.I.Source.remaining run.input.inner)) (g.O.Sink.written run.output) (g.E.Sink.written was.errors)
    (g.I.Source.has_failed run.input.inner) (g.O.Sink.has_failed run.output) (g.E.Sink.has_failed was.errors) in
    subst (λ (s : Seen). EndsCheck c.args.most s after c.in-Ok.status) c.devices.view_is
    (check_ends c.args.most before after c.in-Ok.status c.in-Ok.ensures.small c.in-Ok.ensures.told
    (record { input = c.in-Ok.ensures.ok.0; output = c.in-Ok.ensures.ok.1 }) (keeps_same (g.E.Sink.written was.errors)))
