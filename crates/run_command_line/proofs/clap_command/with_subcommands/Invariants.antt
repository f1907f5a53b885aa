use Rattle.std.proofs.Common.{◌≡◌, length}
use Rattle.clap.specs.Words.{app_of}
use Rattle.run_command_line.specs.Subcommands.{with_subcommands}
use Rattle.run_command_line.proofs.clap_command.with_subcommands.Given as goal

-- with the subcommands that are left it is the command with all of them
abbrev pub invariant-loop-rest : goal.invariant-loop-rest
invariant-loop-rest l = with_subcommands (app_of l.command) l.rest ≡ with_subcommands (app_of l.initial.command) l.subcommands

abbrev pub decreases-loop-rest : goal.decreases-loop-rest
decreases-loop-rest l = length l.rest
