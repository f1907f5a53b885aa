use Rattle.std.proofs.Common.{◌∙◌, None, Some, ap, option_map}
use Rattle.clap.specs.Words.{found_of}
use Rattle.run_command_line.specs.CommandLine.{shown_answer_of}
use Rattle.run_command_line.proofs.ToldRead.{none_shown, shown_given}
use Rattle.run_command_line.proofs.told.shown_if_given.Goals as goal

pub returns-in_err-shown_answer-in-Some : goal.returns-in_err-shown_answer-in-Some
returns-in_err-shown_answer-in-Some c =
    ap (option_map (option_map shown_answer_of)) c.from_residual.ensures
    ∙ shown_given (found_of c.args.matches.now) c.in-Some.text.now None c.in-Some.ensures c.in_err-shown_answer-in-Some.ensures

pub returns-in_ok-shown_answer-in-Some : goal.returns-in_ok-shown_answer-in-Some
returns-in_ok-shown_answer-in-Some c =
    shown_given (found_of c.args.matches.now) c.in-Some.text.now (Some (shown_answer_of c.in_ok-shown_answer-in-Some.field-0)) c.in-Some.ensures
    c.in_ok-shown_answer-in-Some.ensures

pub returns-in-None : goal.returns-in-None
returns-in-None c = none_shown (found_of c.args.matches.now) c.in-None.ensures
