use Rattle.std.proofs.Common.{option_map}
use Rattle.clap.specs.Words.{found_of}
use Rattle.run_command_line.specs.CommandLine.{told_of}
use Rattle.run_command_line.specs.Conditions.{conditions_of}
use Rattle.run_command_line.proofs.ToldRead.{told_is}
use Rattle.run_command_line.proofs.told.told.Goals as goal

pub returns : goal.returns
returns c =
    let conditions = conditions_of c.args.conditions.now in
    told_is (found_of c.args.matches.now) conditions (told_of conditions c.in_ok-told.told) c.in_ok-commands.commands c.in_ok-timing.timing
    (option_map (λ list. list.now) c.get_str.result) (option_map (λ list. list.now) c.other_list.result) _ c.in_ok-told.ensures c.in_ok-commands.ensures.value c.in_ok-timing.ensures
    c.get_str.ensures c.other_list.ensures (c.told_with.ensures conditions)
