use Rattle.std.proofs.Common.{List, ℕ, subst, ◌∙◌}
use Rattle.run_program.specs.Explores.{EndsVerdict}
use Rattle.run_program.specs.Runs.{HasTold}
use Rattle.run_program.specs.Seen.{Seen, seen}
use Rattle.run_program.proofs.ExploreEnds.{verdict_stops}
use Rattle.run_program.proofs.verdict.verdict_run.Goals as goal

pub returns-in-Err : goal.returns-in-Err
returns-in-Err g c =
    let run = c.write_verdict.new in
    let before = seen (g.I.Source.remaining c.devices.inside.input) (g.O.Sink.written c.devices.inside.output) (g.E.Sink.written c.devices.inside.errors)
    (g.I.Source.has_failed c.devices.inside.input) (g.O.Sink.has_failed c.devices.inside.output) (g.E.Sink.has_failed c.devices.inside.errors) in
    let after = seen (g.I.Source.remaining run.input) (g.O.Sink.written run.output) (g.E.Sink.written c.tell.new.sink)
    (g.I.Source.has_failed run.input) (g.O.Sink.has_failed run.output) (g.E.Sink.has_failed c.tell.new.sink) in
    let told = subst (λ (text : List ℕ). HasTold after.errors_failed before.told after.told text) (c.as_slice.ensures.value ∙ c.verdict_line_of.ensures) c.tell.ensures in
    subst (λ (s : Seen). EndsVerdict c.args.args.now c.args.criteria.now s after c.verdict_status_of.result) c.devices.view_is
    (verdict_stops c.args.args.now before after c.verdict_status_of.result c.args.criteria.now c.in-Err.error c.verdict_status_of.ensures c.in-Err.ensures.stopped c.in-Err.ensures.failed told)
