use Rattle.std.proofs.lemmas.Result.{on_ok_weaker}
use Rattle.text_job.specs.Plan.{line_of}
use Rattle.run_live.proofs.IdleSessions.{attempt_answered, call_answered}
use Rattle.run_live.proofs.session.Session.answer_line.Goals as goal

pub returns-in-Attempt-clause-sound : goal.returns-in-Attempt-clause-sound
returns-in-Attempt-clause-sound c =
    on_ok_weaker c.attempt.result
    (λ told. (attempt_answered c.args.self.now c.attempt.new.self c.in-Attempt.worker c.in-Attempt.command c.args.text.now.items c.attempt.new.text.items c.requires.sound
    c.attempt.ensures.workers told).sound) c.attempt.ensures.told

pub returns-in-Attempt-clause-told : goal.returns-in-Attempt-clause-told
returns-in-Attempt-clause-told c =
    rw c.in-Attempt.is (on_ok_weaker c.attempt.result
    (λ told. (attempt_answered c.args.self.now c.attempt.new.self c.in-Attempt.worker c.in-Attempt.command c.args.text.now.items c.attempt.new.text.items c.requires.sound
    c.attempt.ensures.workers told).text_is) c.attempt.ensures.told)

pub returns-in-Attempt-clause-stands : goal.returns-in-Attempt-clause-stands
returns-in-Attempt-clause-stands c =
    rw c.in-Attempt.is (on_ok_weaker c.attempt.result
    (λ told. (attempt_answered c.args.self.now c.attempt.new.self c.in-Attempt.worker c.in-Attempt.command c.args.text.now.items c.attempt.new.text.items c.requires.sound
    c.attempt.ensures.workers told).state_is) c.attempt.ensures.told)

pub returns-in-Call-clause-sound : goal.returns-in-Call-clause-sound
returns-in-Call-clause-sound c =
    on_ok_weaker c.answer.result
    (λ told. (call_answered c.args.self.now c.answer.new.self (line_of c.in-Call.line) c.args.text.now.items c.answer.new.text.items c.requires.sound
    c.answer.ensures.workers told).sound) c.answer.ensures.told
