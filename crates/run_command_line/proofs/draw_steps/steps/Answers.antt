use Rattle.std.proofs.Common.{option_map}
use Rattle.clap.specs.Words.{found_of}
use Rattle.run_command_line.proofs.ToldRead.{stepped_is}
use Rattle.run_command_line.proofs.draw_steps.steps.Goals as goal

pub returns : goal.returns
returns c =
    stepped_is (found_of c.args.matches.now) c.in_ok-columns.columns c.in_ok-commands.commands c.in_ok-timing.timing (option_map (λ list. list.now) c.get_str.result)
    (option_map (λ list. list.now) c.other_list.result) c.in_ok-columns.ensures c.in_ok-commands.ensures.value c.in_ok-timing.ensures c.if-lacks_client.ensures
    c.get_str.ensures c.other_list.ensures
