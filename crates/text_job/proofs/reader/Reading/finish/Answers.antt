use Rattle.std.proofs.Common.{◌+◌, ◌≤◌, length, rules, sym, ◌∙◌, arith}
use Rattle.std.proofs.lemmas.List.{length-append}
use Rattle.text_job.specs.Taken.{bytes_taken}
use Rattle.text_job.proofs.Takes.{file_cut, file_ended, file_fault}
use Rattle.text_job.proofs.reader.Reading.finish.Goals as goal

pub returns-in-Some-clause-fault : goal.returns-in-Some-clause-fault
returns-in-Some-clause-fault c = λ text taken.
    let short : bytes_taken c.args.self + length c.args.rest.now ≤ 1048576 = search rules in
    file_fault _ _ _ _ _ (omega (arith, short, taken.count, length-append text c.args.rest.now)) (c.in_ok-take.ensures.taken text taken) c.in-Some.is

pub returns-then-not-has_ended-clause-fault : goal.returns-then-not-has_ended-clause-fault
returns-then-not-has_ended-clause-fault c = λ text taken.
    let short : bytes_taken c.args.self + length c.args.rest.now ≤ 1048576 = search rules in
    rw c.fault_of_line.ensures (file_cut c.take.new.self text c.args.rest.now c.in_ok-take.field-0
    (omega (arith, short, taken.count, length-append text c.args.rest.now)) (c.in_ok-take.ensures.taken text taken) c.in_default.is c.in_ok-take.ensures.left
    (sym c.has_ended.ensures ∙ c.if-not-has_ended.true))

pub finish-requires-clause-draft : goal.finish-requires-clause-draft
finish-requires-clause-draft c = c.in_ok-take.ensures.sound.draft c.in_default.is

pub returns-clause-ok : goal.returns-clause-ok
returns-clause-ok c = λ text taken.
    let short : bytes_taken c.args.self + length c.args.rest.now ≤ 1048576 = search rules in
    rw c.finish.ensures (file_ended c.take.new.self text c.args.rest.now c.in_ok-take.field-0
    (omega (arith, short, taken.count, length-append text c.args.rest.now)) (c.in_ok-take.ensures.taken text taken) c.in_default.is c.in_ok-take.ensures.left
    (sym c.has_ended.ensures ∙ c.if-not-has_ended.false))
