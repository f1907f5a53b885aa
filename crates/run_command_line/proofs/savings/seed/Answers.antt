use Rattle.std.proofs.Common.{◌∙◌, None}
use Rattle.clap.specs.Words.{found_of}
use Rattle.run_command_line.proofs.SeedsRead.{default_seed, no_seed, seed_beside, seed_given}
use Rattle.run_command_line.proofs.savings.seed.Goals as goal

pub returns-in_err-number-in-Some-2 : goal.returns-in_err-number-in-Some-2
returns-in_err-number-in-Some-2 c =
    c.from_residual-in_err-number-in-Some-2.ensures
    ∙ seed_given (found_of c.args.matches.now) c.in_ok-is_first_fit.is_first_fit c.in_ok-is_first_fit.ensures c.in-Some-2.field-0.now None c.in-Some-2.ensures
    c.if-is_first_fit.false c.in_err-number-in-Some-2.ensures.value

pub returns-in-Some : goal.returns-in-Some
returns-in-Some c =
    seed_beside (found_of c.args.matches.now) c.in_ok-is_first_fit.is_first_fit c.in_ok-is_first_fit.ensures c.in-Some.field-0.now c.in-Some.ensures
    c.if-is_first_fit.true

pub returns-in-None : goal.returns-in-None
returns-in-None c =
    no_seed (found_of c.args.matches.now) c.in_ok-is_first_fit.is_first_fit c.in_ok-is_first_fit.ensures c.in-None.ensures c.if-is_first_fit-2.true

pub returns-in-None-2 : goal.returns-in-None-2
returns-in-None-2 c =
    default_seed (found_of c.args.matches.now) c.in_ok-is_first_fit.is_first_fit c.in_ok-is_first_fit.ensures c.in-None-2.ensures c.if-is_first_fit-2.false
