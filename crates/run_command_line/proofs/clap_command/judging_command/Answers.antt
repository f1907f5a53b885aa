use Rattle.clap.specs.Words.{app_of}
use Rattle.run_command_line.proofs.CommandsBuilt.{judging_of}
use Rattle.run_command_line.proofs.clap_command.judging_command.Goals as goal

pub returns : goal.returns
returns c = judging_of c.with_subcommands.result (app_of c.in_ok-command.command) c.in_ok-command.ensures c.with_subcommands.ensures
