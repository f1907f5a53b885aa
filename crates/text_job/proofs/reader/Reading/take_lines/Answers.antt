use Rattle.std.proofs.Common.{◌≡◌, ◌<◌, Err, length, ap, refl, sym, subst, ◌∙◌, rules, arith}
use Rattle.std.proofs.lemmas.List.{length-append}
use Rattle.model_jobs.specs.JobFiles.{fault_at}
use Rattle.model_words.specs.declared.faults.TextFault.{TextFault}
use Rattle.text_job.specs.Draft.{draft_of}
use Rattle.text_job.specs.Reading.{IsFaultOfLine}
use Rattle.text_job.proofs.FileEnds.{behind_end}
use Rattle.text_job.proofs.Takes.{all_read, fault_read, line_read}
use Rattle.text_job.proofs.reader.Reading.take_lines.Goals as goal

pub returns-in-Err-Kind-clause-read : goal.returns-in-Err-Kind-clause-read
returns-in-Err-Kind-clause-read c =
    let so_far = c.loop-self.invariant in
    let told = subst (IsFaultOfLine (draft_of c.loop-self.self.draft) c.loop-self.rest.now) c.in-Err-Kind.field-0-is c.in-Err-Kind.ensures.err in
    let found : c.fault_of_line.result ≡ fault_at c.loop-self.self.number c.in-Err-Kind.kind = search rules in
    fault_read _ _ _ _ _ _ so_far.read so_far.sound refl (λ more. told c.loop-self.self.number more ∙ ap (λ (fault : TextFault). Err fault) (sym found))

pub loop-self-preserved : goal.loop-self-preserved
loop-self-preserved c =
    let so_far = c.loop-self.invariant in
    let shorter : length c.in-Ok-Some.behind.now < length c.loop-self.rest.now = search rules in
    record {
      draft = c.in-Ok-Some.ensures.draft;
      sound = so_far.sound;
      first = omega arith;
      counted = omega (arith, so_far.counted, shorter);
      taken = so_far.taken;
      read = line_read _ _ _ _ _ _ so_far.read so_far.sound so_far.sound refl (search rules);
    }

pub returns-clause-read : goal.returns-clause-read
returns-clause-read c = grind (arith, fault_read, behind_end, length-append, all_read)
