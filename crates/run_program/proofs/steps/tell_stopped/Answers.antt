use Rattle.std.proofs.Common.{◌∙◌, List, ℕ, subst}
use Rattle.run_program.specs.Runs.{HasTold}
use Rattle.run_program.proofs.steps.tell_stopped.Goals as goal

pub returns-in-NothingWrong : goal.returns-in-NothingWrong
returns-in-NothingWrong g c =
    rw c.in-NothingWrong.is (
    subst (λ (text : List ℕ). HasTold (g.E.Sink.has_failed c.tell-in-NothingWrong.new.sink) (g.E.Sink.written c.args.errors.now)
    (g.E.Sink.written c.tell-in-NothingWrong.new.sink) text)
    (c.as_slice-in-NothingWrong.ensures.value ∙ c.whole_line-line.ensures) c.tell-in-NothingWrong.ensures
    )
