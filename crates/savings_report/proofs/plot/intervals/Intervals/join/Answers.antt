use Rattle.std.proofs.Common.{◌≡◌, ◌*◌, length, sym, ◌∙◌, arith}
use Rattle.savings_report.proofs.PieceLemmas.{pieces_joined}
use Rattle.savings_report.proofs.plot.intervals.Intervals.join.Goals as goal

pub returns-clause-pieces : goal.returns-clause-pieces
returns-clause-pieces c = λ rs count each.
    let kept = c.loop-k.invariant in
    let w = c.args.self.now.width in
    let twice : c.loop-k.self.width * 2 ≡ 2 * w = omega (arith, kept.width) in
    let full : length rs ≡ 600 * w = sym count ∙ c.requires.full in
    pieces_joined w _ c.args.self.now.list.items c.loop-k.self.list.items rs twice full each (λ j below. kept.joined j (omega arith))
