use Rattle.std.proofs.Common.{rules, ◌≡◌, Ok, IfOk, IfErr, subst, sym}
use Rattle.text_fields.specs.Lines.{texts}
use Rattle.text_job.specs.Plan.{line_of}
use Rattle.text_job.specs.Reading.{IsFaultOfStep}
use Rattle.text_job.proofs.Pairs.{pair_chosen}
use Rattle.text_job.proofs.plan_lines.plan_line.Goals as goal

pub returns-then-is_word-clause-ok : goal.returns-then-is_word-clause-ok
returns-then-is_word-clause-ok c =
    subst (λ read. IfOk c.pair_of.result (λ line. read ≡ Ok (line_of line)))
    (sym (pair_chosen c.args.version c.args.workers c.args.word.now (texts c.args.fields.now) (search rules))) c.pair_of.ensures.ok

pub returns-then-is_word-clause-err : goal.returns-then-is_word-clause-err
returns-then-is_word-clause-err c =
    subst (λ read. IfErr c.pair_of.result (IsFaultOfStep read))
    (sym (pair_chosen c.args.version c.args.workers c.args.word.now (texts c.args.fields.now) (search rules))) c.pair_of.ensures.err
