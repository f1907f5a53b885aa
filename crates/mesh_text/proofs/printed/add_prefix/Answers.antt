use Rattle.std.proofs.Common.{append-nil, sym}
use Rattle.std.proofs.lemmas.Result.{on_ok_weaker}
use Rattle.mesh_text.proofs.printed.add_prefix.Goals as goal

pub returns-in-Answers : goal.returns-in-Answers
returns-in-Answers c = λ state at. rw c.in-Answers.is (sym (append-nil c.args.text.now.items))

pub returns-in-Echo : goal.returns-in-Echo
returns-in-Echo c = on_ok_weaker c.add_echo.result (λ added state at. rw c.in-Echo.is (added state at)) c.add_echo.ensures
