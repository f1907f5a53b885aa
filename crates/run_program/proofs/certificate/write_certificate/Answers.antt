use Rattle.run_program.proofs.CertificateStops.{read_stops_as}
use Rattle.run_program.proofs.certificate.write_certificate.Goals as goal

pub returns-clause-stopped : goal.returns-clause-stopped
returns-clause-stopped g c =
    read_stops_as c.args.args.now (g.I.Source.remaining c.args.input.now) (g.I.Source.remaining c.read_all.new.input) (g.O.Sink.written c.args.output.now)
    (g.O.Sink.written c.write_certificate_of.new.output) c.as_slice.result.now c.in_ok-text.text.items c.write_certificate_of.result c.as_slice.ensures.value
    c.in_ok-text.ensures.text c.write_certificate_of.ensures.stopped
