use Rattle.run_command_line.proofs.Subcommands.{first_subcommand}
use Rattle.run_command_line.proofs.clap_command.with_subcommands.Goals as goal

pub loop-rest-preserved : goal.loop-rest-preserved
loop-rest-preserved c = first_subcommand _ _ _ _ _ _ c.in-len1-up.len_at_least c.in_ok-command.ensures c.in_ok-subcommand_of.ensures c.loop-rest.invariant
