use Rattle.std.proofs.Common.{subst}
use Rattle.run_program.specs.Seen.{Seen, seen}
use Rattle.run_program.specs.Threads.{EndsThreads}
use Rattle.run_program.proofs.ThreadEnds.{stopped_ends}
use Rattle.run_program.proofs.threads.printed_run.Goals as goal

pub returns-in-Err : goal.returns-in-Err
returns-in-Err g c =
    let run = c.run_file-outcome.new in
    let before = seen (g.I.Source.remaining c.devices.inside.input) (g.O.Sink.written c.devices.inside.output) (g.E.Sink.written c.devices.inside.errors)
    (g.I.Source.has_failed c.devices.inside.input) (g.O.Sink.has_failed c.devices.inside.output) (g.E.Sink.has_failed c.devices.inside.errors) in
    let after = seen (g.I.Source.remaining run.input) (g.O.Sink.written run.output) (g.E.Sink.written c.threads_stopped.new.errors)
    (g.I.Source.has_failed run.input) (g.O.Sink.has_failed run.output) (g.E.Sink.has_failed c.threads_stopped.new.errors) in
    subst (λ (s : Seen). EndsThreads c.args.printed c.args.args.now s after c.threads_stopped.result) c.devices.view_is
    (stopped_ends c.args.printed c.args.args.now before after c.in-Err.error c.threads_stopped.result c.threads_stopped.ensures.status c.in-Err.ensures.stopped c.in-Err.ensures.failed
    c.threads_stopped.ensures.told)
