use Rattle.std.proofs.Common.{List, ℕ, subst, ◌∙◌}
use Rattle.run_program.specs.Certificates.{EndsCertificate}
use Rattle.run_program.specs.Runs.{HasTold}
use Rattle.run_program.specs.Seen.{Seen, seen}
use Rattle.run_program.proofs.CertificateEnds.{keeps_same, certificate_ends, certificate_stops}
use Rattle.run_program.proofs.certificate.certificate_run.Goals as goal

pub returns-in-Err : goal.returns-in-Err
returns-in-Err g c =
    let was = c.devices.inside in
    let run = c.write_certificate.new in
    let before = seen (g.I.Source.remaining was.input) (g.O.Sink.written was.output) (g.E.Sink.written was.errors) (g.I.Source.has_failed was.input)
    (g.O.Sink.has_failed was.output) (g.E.Sink.has_failed was.errors) in
    let after = seen (g.I.Source.remaining run.input) (g.O.Sink.written run.output) (g.E.Sink.written c.tell.new.sink) (g.I.Source.has_failed run.input)
    (g.O.Sink.has_failed run.output) (g.E.Sink.has_failed c.tell.new.sink) in
    let told = subst (λ (text : List ℕ). HasTold after.errors_failed before.told after.told text) (c.as_slice.ensures.value ∙ c.check_line_of.ensures) c.tell.ensures in
    subst (λ (s : Seen). EndsCertificate c.args.args.now s after c.status_of_check.result) c.devices.view_is
    (certificate_stops c.args.args.now before after c.in-Err.error c.status_of_check.result c.status_of_check.ensures c.in-Err.ensures.stopped
    c.in-Err.ensures.failed told)

pub returns-in-Ok : goal.returns-in-Ok
returns-in-Ok g c =
    let was = c.devices.inside in
    let run = c.write_certificate.new in
    let before = seen (g.I.Source.remaining was.input) (g.O.Sink.written was.output) (g.E.Sink.written was.errors) (g.I.Source.has_failed was.input)
    (g.O.Sink.has_failed was.output) (g.E.Sink.has_failed was.errors) in
    let after = seen (g.I.Source.remaining run.input) (g.O.Sink.written run.output) (g.E.Sink.written was.errors) (g.I.Source.has_failed run.input)
    (g.O.Sink.has_failed run.output) (g.E.Sink.has_failed was.errors) in
    subst (λ (s : Seen). EndsCertificate c.args.args.now s after c.in-Ok.status) c.devices.view_is
    (certificate_ends c.args.args.now before after c.in-Ok.status c.in-Ok.ensures.small c.in-Ok.ensures.told
    (record { input = c.in-Ok.ensures.ok.0; output = c.in-Ok.ensures.ok.1 }) (keeps_same (g.E.Sink.written was.errors)))
