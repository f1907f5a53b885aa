use Rattle.std.proofs.Common.{◌∙◌, Bool, ap}
use Rattle.std.specs.Prelude.{option_and_then}
use Rattle.clap.specs.Words.{found_of, rows_of}
use Rattle.run_command_line.specs.CommandLine.{Numbers, is_recorded_in, is_reported_in, numbers_of, threads_by}
use Rattle.run_command_line.proofs.threads.threads.Goals as goal

pub returns : goal.returns
returns c conditions =
    let file = c.args.file.now in
    let rows = rows_of (found_of c.args.matches.now) in
    c.threads_of.ensures conditions
    ∙ ap (option_and_then (λ (reported : Bool). threads_by file (numbers_of c.in_ok-numbers.numbers) c.in_ok-is_recorded.is_recorded reported)) c.in_ok-is_reported.ensures
    ∙ ap (option_and_then (λ (recorded : Bool). option_and_then (threads_by file (numbers_of c.in_ok-numbers.numbers) recorded) (is_reported_in rows))) c.in_ok-is_recorded.ensures
    ∙ ap (option_and_then (λ (numbers : Numbers). option_and_then (λ (recorded : Bool). option_and_then (threads_by file numbers recorded) (is_reported_in rows)) (is_recorded_in rows)))
    c.in_ok-numbers.ensures
