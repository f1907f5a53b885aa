use Rattle.std.proofs.Common.{◌∙◌, None}
use Rattle.clap.specs.Words.{found_of}
use Rattle.run_command_line.proofs.ExplorationsRead.{given_none, given_one}
use Rattle.run_command_line.proofs.values.number_if_given.Goals as goal

pub returns-in_err-small_number-in-Some-clause-value : goal.returns-in_err-small_number-in-Some-clause-value
returns-in_err-small_number-in-Some-clause-value c =
    c.from_residual.ensures
    ∙ given_one c.args.range.name.now c.args.range.least c.args.range.most (found_of c.args.matches.now) c.in-Some.field-0.now None c.in-Some.ensures
    c.in_err-small_number-in-Some.ensures.value

pub returns-in-None-clause-value : goal.returns-in-None-clause-value
returns-in-None-clause-value c =
    given_none c.args.range.name.now c.args.range.least c.args.range.most (found_of c.args.matches.now) c.in-None.ensures
