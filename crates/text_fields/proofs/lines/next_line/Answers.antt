use Rattle.std.proofs.Common.{sym, rules}
use Rattle.std.proofs.lemmas.Result.{err_from_is_err_and}
use Rattle.text_fields.proofs.LineSteps.{bytes_fault, short_and_printable, unended_fault}
use Rattle.text_fields.proofs.lines.next_line.Goals as goal

pub returns-then-text-gt-MAX_LINE_BYTES-clause-err : goal.returns-then-text-gt-MAX_LINE_BYTES-clause-err
returns-then-text-gt-MAX_LINE_BYTES-clause-err c = unended_fault c.args.text.now (search rules) c.if-text-gt-MAX_LINE_BYTES.true

pub returns-in_err-check_bytes-clause-err : goal.returns-in_err-check_bytes-clause-err
returns-in_err-check_bytes-clause-err c =
    let p = err_from_is_err_and c.from_residual.result c.from_residual.ensures.1 in
    rw (p.1, p.2) (bytes_fault c.args.text.now c.in-Some.line.now c.in-Some.rest.now _ c.in-Some.ensures.some (sym c.in_err-check_bytes.ensures))

pub returns-clause-short : goal.returns-clause-short
returns-clause-short c = (short_and_printable c.in-Some.line.now (sym c.in_ok-check_bytes.ensures)).0

pub returns-clause-printable : goal.returns-clause-printable
returns-clause-printable c = (short_and_printable c.in-Some.line.now (sym c.in_ok-check_bytes.ensures)).1
