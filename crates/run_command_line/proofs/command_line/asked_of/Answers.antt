use Rattle.std.proofs.Common.{◌∙◌, option_map, ap}
use Rattle.clap.specs.Words.{found_of}
use Rattle.run_command_line.specs.CommandLine.{asking}
use Rattle.run_command_line.specs.Conditions.{conditions_of}
use Rattle.run_command_line.proofs.CommandLines.{asked_of_file, asked_of_known}
use Rattle.run_command_line.proofs.command_line.asked_of.Goals as goal

pub returns-in_err-file : goal.returns-in_err-file
returns-in_err-file c =
    ap (option_map (asking (conditions_of c.args.conditions.now))) c.from_residual.ensures
    ∙ asked_of_file (conditions_of c.args.conditions.now) c.args.name.now (found_of c.args.matches.now) _ c.in_err-file.ensures

pub returns-in-replay : goal.returns-in-replay
returns-in-replay c = asked_of_known (conditions_of c.args.conditions.now) _ _ (found_of c.args.matches.now) _ _ c.in-replay.is c.in_ok-file.ensures (c.replay.ensures (conditions_of c.args.conditions.now))

pub returns-in-threads : goal.returns-in-threads
returns-in-threads c = asked_of_known (conditions_of c.args.conditions.now) _ _ (found_of c.args.matches.now) _ _ c.in-threads.is c.in_ok-file.ensures (c.threads.ensures (conditions_of c.args.conditions.now))

pub returns-in-draw : goal.returns-in-draw
returns-in-draw c = asked_of_known (conditions_of c.args.conditions.now) _ _ (found_of c.args.matches.now) _ _ c.in-draw.is c.in_ok-file.ensures (c.draw.ensures (conditions_of c.args.conditions.now))

pub returns-in-explore : goal.returns-in-explore
returns-in-explore c = asked_of_known (conditions_of c.args.conditions.now) _ _ (found_of c.args.matches.now) _ _ c.in-explore.is c.in_ok-file.ensures c.explore.ensures

pub returns-in-check : goal.returns-in-check
returns-in-check c = asked_of_known (conditions_of c.args.conditions.now) _ _ (found_of c.args.matches.now) _ _ c.in-check.is c.in_ok-file.ensures (c.check.ensures (conditions_of c.args.conditions.now))

pub returns-in-savings : goal.returns-in-savings
returns-in-savings c = asked_of_known (conditions_of c.args.conditions.now) _ _ (found_of c.args.matches.now) _ _ c.in-savings.is c.in_ok-file.ensures (c.savings.ensures (conditions_of c.args.conditions.now))
