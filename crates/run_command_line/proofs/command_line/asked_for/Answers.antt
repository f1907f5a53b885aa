use Rattle.std.proofs.Common.{◌∙◌, option_map, ap}
use Rattle.std.specs.Prelude.{option_and_then}
use Rattle.clap.specs.Words.{found_of, rows_of, subcommand_rows_of}
use Rattle.run_command_line.specs.CommandLine.{asked_with, asking_of}
use Rattle.run_command_line.specs.Conditions.{ConditionTexts, conditions_of}
use Rattle.run_command_line.proofs.CommandLines.{asked_by_matches, conditions_of_rows, explains_of_rows}
use Rattle.run_command_line.proofs.command_line.asked_for.Goals as goal

pub returns-in_err-conditions-clause-asked : goal.returns-in_err-conditions-clause-asked
returns-in_err-conditions-clause-asked c =
    let found = found_of c.in_ok-name.matches.now in
    ap (option_map asking_of) c.from_residual-in_err-conditions.ensures
    ∙ ap (option_and_then (λ (conditions : ConditionTexts). asked_with conditions c.in_ok-name.name.now (rows_of found))) c.in_err-conditions.ensures
    ∙ asked_by_matches c.args.matches.now c.in_ok-name.name.now found c.in_ok-name.ensures.name c.in_ok-name.ensures.rows

pub returns-in_err-args-clause-asked : goal.returns-in_err-args-clause-asked
returns-in_err-args-clause-asked c =
    let found = found_of c.in_ok-name.matches.now in
    ap (option_map asking_of) c.from_residual-in_err-args.ensures
    ∙ c.in_err-args.ensures
    ∙ ap (option_and_then (λ (conditions : ConditionTexts). asked_with conditions c.in_ok-name.name.now (rows_of found))) c.in_ok-conditions.ensures
    ∙ asked_by_matches c.args.matches.now c.in_ok-name.name.now found c.in_ok-name.ensures.name c.in_ok-name.ensures.rows

pub returns-clause-asked : goal.returns-clause-asked
returns-clause-asked c =
    let found = found_of c.in_ok-name.matches.now in
    c.in_ok-args.ensures
    ∙ ap (option_and_then (λ (conditions : ConditionTexts). asked_with conditions c.in_ok-name.name.now (rows_of found))) c.in_ok-conditions.ensures
    ∙ asked_by_matches c.args.matches.now c.in_ok-name.name.now found c.in_ok-name.ensures.name c.in_ok-name.ensures.rows

pub returns-clause-conditions : goal.returns-clause-conditions
returns-clause-conditions c =
    conditions_of_rows (subcommand_rows_of c.args.matches.now) (rows_of (found_of c.in_ok-name.matches.now)) (conditions_of c.in_ok-conditions.conditions) c.in_ok-name.ensures.rows
    c.in_ok-conditions.ensures

pub returns-clause-explains : goal.returns-clause-explains
returns-clause-explains c =
    c.explains-explains.ensures
    ∙ explains_of_rows (subcommand_rows_of c.args.matches.now) (rows_of (found_of c.in_ok-name.matches.now)) c.in_ok-name.ensures.rows
