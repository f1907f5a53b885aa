use Rattle.clap.specs.Words.{app_of}
use Rattle.run_command_line.proofs.CommandsBuilt.{runs_of}
use Rattle.run_command_line.proofs.clap_command.runs_command.Goals as goal

pub returns : goal.returns
returns c = runs_of c.with_subcommands.result (app_of c.bare_command.result) c.bare_command.ensures c.with_subcommands.ensures
