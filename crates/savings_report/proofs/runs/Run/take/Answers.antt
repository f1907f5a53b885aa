use Rattle.std.proofs.Common.{◌≡◌, rules}
use Rattle.savings_replay.specs.declared.taken.Taken.TheVariants.{Made}
use Rattle.savings_report.specs.declared.runs.Run.{Run}
use Rattle.savings_report.proofs.RunSteps.{call_made}
use Rattle.savings_report.proofs.runs.Run.take.Goals as goal

pub returns-then-eq : goal.returns-then-eq
returns-then-eq c =
    let new : Run = record { savings = c.take.new.self; perfect = c.sample_of-sample.new.perfect; gathered = c.look.new.self } in
    let made : c.in_ok-taken.taken ≡ Made = search rules in
    call_made c.args.self.now new c.args.call.now c.in_ok-taken.taken c.sample_of-sample.result made c.in_ok-taken.ensures.taken c.in_ok-taken.ensures.settings
    c.sample_of-sample.ensures.value c.look.ensures
