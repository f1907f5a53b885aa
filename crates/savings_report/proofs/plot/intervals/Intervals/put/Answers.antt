use Rattle.std.proofs.Common.{◌≡◌, ◌/◌, sym, ◌∙◌}
use Rattle.savings_report.specs.Intervals.{interval_at}
use Rattle.savings_report.proofs.PieceLemmas.{at_place, pieces_put, put_first, put_next}
use Rattle.savings_report.proofs.plot.intervals.Intervals.put.Goals as goal
use Rattle.savings_report.proofs.plot.intervals.Intervals.put.Goals.{then-self-eq0, else-self-eq0}

pub returns-clause-pieces : goal.returns-clause-pieces
returns-clause-pieces c = λ rs count each.
    let before = c.args.self.now in
    let asked = c.requires in
    elim c.if-self-eq0.branch [
      | then-self-eq0 w ↦
          rw w.self-is
          (pieces_put before.width before.count before.list.items c.of-next.result rs c.args.reading count asked.wide asked.space asked.room each
          (put_first before.width before.count c.of-next.result rs c.args.reading count w.if-self-eq0.true c.of-next.ensures))
      | else-self-eq0 w ↦
          let here : interval_at before.list.items (before.count / before.width) ≡ w.index.result.now =
          at_place before.width before.count before.list.items w.index.result.now asked.wide asked.space asked.room w.index.ensures in
          rw w.self-is
          (pieces_put before.width before.count before.list.items w.joined.result rs c.args.reading count asked.wide asked.space asked.room each
          (put_next before.width before.count before.list.items w.joined.result c.of-next.result rs c.args.reading count asked.wide w.if-self-eq0.false each
          c.of-next.ensures (λ these those some others first second. w.joined.ensures these those some others (sym here ∙ first) second)))
    ]
