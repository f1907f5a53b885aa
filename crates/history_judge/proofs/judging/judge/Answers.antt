use Rattle.std.specs.Io.KnownBytes.{prepend_known}
use Rattle.history_judge.specs.Judgements.{left_of}
use Rattle.history_judge.proofs.KeptTexts.{judged_as_kept}
use Rattle.history_judge.proofs.judging.judge.Goals as goal

pub returns-then-branch-clause-judged : goal.returns-then-branch-clause-judged
returns-then-branch-clause-judged g c =
    let asked = c.args.input.now in let looked = c.begins_with.new.self in let read = c.check_calls.new.input in (
      c.in_ok-begins_with.ensures.begins c.if-branch.true,
      judged_as_kept c.args.most (left_of asked.begun.items (g.I.Source.remaining asked.inner))
          (prepend_known looked.begun.items (g.I.Source.remaining looked.inner)) (left_of read.begun.items (g.I.Source.remaining read.inner))
          c.in_ok-verdict.verdict c.in_ok-begins_with.ensures.same c.in_ok-verdict.ensures.judged,
    )
