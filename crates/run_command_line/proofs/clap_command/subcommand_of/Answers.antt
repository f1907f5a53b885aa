use Rattle.run_command_line.proofs.Subcommands.{first_argument}
use Rattle.run_command_line.proofs.clap_command.subcommand_of.Goals as goal

pub loop-rest-preserved : goal.loop-rest-preserved
loop-rest-preserved c = first_argument _ _ _ _ _ _ c.in-len1-up.len_at_least c.in_ok-command.ensures c.argument_of.ensures c.loop-rest.invariant
