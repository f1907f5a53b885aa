use Rattle.std.proofs.Common.{inr, refl}
use Rattle.run_program.specs.Certificates.{HasToldCertificateOf}
use Rattle.run_program.proofs.TwoClauses.{of_both}
use Rattle.run_program.proofs.certificate.write_certificate_for.Goals as goal

pub returns-clause-told : goal.returns-clause-told
returns-clause-told g c =
    let judgement = c.args.judgement.now in
    let written = g.O.Sink.written c.args.output.now in let written' = g.O.Sink.written c.write_judgement.new.output in
    let judged = c.requires.judged in
    of_both c.write_judgement.result _ _ (HasToldCertificateOf c.args.args.now c.args.text.now written written') c.write_judgement.ensures.wrote
    c.write_judgement.ensures.status
    (λ wrote status is. inr (record {
      judgement = judgement;
      rest = judged.0;
      judged = judged.1;
      uncertified = c.in_ok-certificate.ensures.none (rw c.in_default.is refl);
      wrote = wrote;
      is_status = is;
    }))
