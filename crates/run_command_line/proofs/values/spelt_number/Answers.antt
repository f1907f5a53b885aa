use Rattle.std.proofs.Common.{◌∙◌, sym}
use Rattle.run_command_line.proofs.NumbersRead.{not_spelt, spelt_taken}
use Rattle.run_command_line.proofs.values.spelt_number.Goals as goal

pub returns-in_err-number : goal.returns-in_err-number
returns-in_err-number c =
    c.from_residual.ensures
    ∙ not_spelt c.args.least c.args.most c.args.text.now c.parse.result c.parse.ensures.value (sym c.ok.ensures.value ∙ c.in_err-number.was)

pub returns-then-number-most : goal.returns-then-number-most
returns-then-number-most c =
    spelt_taken c.args.least c.args.most c.args.text.now c.parse.result c.in_ok-number.number c.parse.ensures.value
    (sym c.ok.ensures.value ∙ c.in_ok-number.was) c.if-least-number.true c.if-number-most.true
