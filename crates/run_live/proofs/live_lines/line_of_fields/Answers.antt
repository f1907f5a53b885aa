use Rattle.std.proofs.Common.{◌≡◌, ◌∙◌, Ok, IfErr, IfOk, subst, sym}
use Rattle.run_live.specs.LiveLines.{live_of}
use Rattle.text_job.specs.Reading.{IsFaultOfStep}
use Rattle.run_live.proofs.LiveFields.{attempt_by_word, call_by_word}
use Rattle.run_live.proofs.live_lines.line_of_fields.Goals as goal

pub returns-clause-ok : goal.returns-clause-ok
returns-clause-ok c =
    let is = call_by_word c.args.workers c.args.fields.now _ c.in-len1-up.len_at_least c.requires.filled (sym c.is_word.ensures ∙ c.if-is_word.false) in
    subst (λ read. IfOk c.call_of.result (λ asked. read ≡ Ok (live_of asked))) (sym is) c.call_of.ensures.ok

pub returns-clause-err : goal.returns-clause-err
returns-clause-err c =
    let is = call_by_word c.args.workers c.args.fields.now _ c.in-len1-up.len_at_least c.requires.filled (sym c.is_word.ensures ∙ c.if-is_word.false) in
    subst (λ read. IfErr c.call_of.result (IsFaultOfStep read)) (sym is) c.call_of.ensures.err

pub returns-then-is_word-clause-ok : goal.returns-then-is_word-clause-ok
returns-then-is_word-clause-ok c =
    attempt_by_word _ _ _ c.in-len1-up.len_at_least c.requires.filled (sym c.is_word.ensures ∙ c.if-is_word.true) ∙ sym c.in_ok-attempt.ensures.value
