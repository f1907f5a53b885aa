use Rattle.std.proofs.Common.{◌∙◌, option_map, ap, sym}
use Rattle.clap.specs.Words.{found_of, rows_of}
use Rattle.run_command_line.specs.CommandLine.{asked_with, live_of}
use Rattle.run_command_line.specs.Conditions.{conditions_of}
use Rattle.run_command_line.proofs.command_line.asked_by.Goals as goal

pub returns-in_ok-sizes-in-live : goal.returns-in_ok-sizes-in-live
returns-in_ok-sizes-in-live c =
    ap (option_map live_of) c.in_ok-sizes-in-live.ensures
    ∙ sym (ap (λ text. asked_with (conditions_of c.args.conditions.now) text (rows_of (found_of c.args.matches.now))) c.in-live.is)
