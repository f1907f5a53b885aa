use Rattle.std.proofs.Common.{◌∙◌, arith, inl, inr}
use Rattle.clap.specs.Words.{found_of}
use Rattle.run_command_line.proofs.NumbersRead.{no_number, number_outside, number_taken}
use Rattle.run_command_line.proofs.values.number.Goals as goal

pub returns-in_err-number-clause-value : goal.returns-in_err-number-clause-value
returns-in_err-number-clause-value c =
    c.from_residual.ensures
    ∙ no_number c.args.range.least c.args.range.most (found_of c.args.matches.now) c.args.range.name.now c.get_one.result
    c.get_one.ensures.none c.get_one.ensures.value c.in_err-number.was

pub returns-then-number-range-clause-value : goal.returns-then-number-range-clause-value
returns-then-number-range-clause-value c =
    number_taken c.args.range.least c.args.range.most (found_of c.args.matches.now) c.args.range.name.now c.get_one.result
    c.get_one.ensures.none c.get_one.ensures.value c.in_ok-number.number c.in_ok-number.was c.if-range-number.true c.if-number-range.true

pub returns-else-range-number-clause-value : goal.returns-else-range-number-clause-value
returns-else-range-number-clause-value c =
    number_outside c.args.range.least c.args.range.most (found_of c.args.matches.now) c.args.range.name.now c.get_one.result
    c.get_one.ensures.none c.get_one.ensures.value c.in_ok-number.number c.in_ok-number.was
    (λ low high. elim c.else-range-number.either [ inl above ↦ absurd (omega (arith, above.1, high)) | inr below ↦ absurd (omega (arith, below, low)) ])
