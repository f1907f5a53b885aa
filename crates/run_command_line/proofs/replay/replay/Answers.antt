use Rattle.std.proofs.Common.{◌∙◌, Bool, ap}
use Rattle.std.specs.Prelude.{option_and_then}
use Rattle.clap.specs.Words.{found_of, rows_of}
use Rattle.run_command_line.specs.CommandLine.{is_echoed_in, replay_by}
use Rattle.run_command_line.proofs.replay.replay.Goals as goal

pub returns : goal.returns
returns c conditions =
    let file = c.args.file.now in
    let rows = rows_of (found_of c.args.matches.now) in
    c.replay_of.ensures conditions
    ∙ ap (option_and_then (λ (echoed : Bool). replay_by file c.in_ok-is_recorded.is_recorded echoed)) c.in_ok-is_echoed.ensures
    ∙ ap (option_and_then (λ (recorded : Bool). option_and_then (replay_by file recorded) (is_echoed_in rows))) c.in_ok-is_recorded.ensures
