use Rattle.std.proofs.Common.{◌≡◌, ◌++◌, ap, subst, ◌∙◌}
use Rattle.std.specs.Prelude.{OnErr}
use Rattle.model_jobs.specs.Texts.{ended}
use Rattle.text_devices.specs.Transfer.{AppendsBeginning}
use Rattle.run_live.specs.Answers.{told}
use Rattle.run_live.specs.Sessions.{sizes_of, state_of}
use Rattle.run_live.proofs.run.write_answer.Goals as goal

pub returns-clause-begun : goal.returns-clause-begun
returns-clause-begun g c =
    let line = told (sizes_of c.args.session.now) (state_of c.args.session.now) c.args.line.now in
    let text_is : c.answer.new.text.items ≡ line.text = c.in_ok-answer.ensures.told ∙ ap (λ front. front ++ line.text) c.new-text.ensures.items in
    subst (λ text. OnErr c.write_line.result (AppendsBeginning (g.O.Sink.written c.args.output.now) (g.O.Sink.written c.write_line.new.output) (ended text))) text_is c.write_line.ensures.begun
