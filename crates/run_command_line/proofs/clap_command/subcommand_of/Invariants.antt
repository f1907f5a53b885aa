use Rattle.std.proofs.Common.{◌≡◌, length}
use Rattle.clap.specs.Words.{app_of}
use Rattle.run_command_line.specs.Subcommands.{subcommand_app, with_arguments}
use Rattle.run_command_line.proofs.clap_command.subcommand_of.Given as goal

-- with the arguments that are left it is the command of the subcommand
abbrev pub invariant-loop-rest : goal.invariant-loop-rest
invariant-loop-rest l = with_arguments (app_of l.command) l.rest ≡ subcommand_app l.subcommand

abbrev pub decreases-loop-rest : goal.decreases-loop-rest
decreases-loop-rest l = length l.rest
