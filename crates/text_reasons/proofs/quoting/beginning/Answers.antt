use Rattle.std.proofs.Common.{arith, sym}
use Rattle.std.proofs.lemmas.List.{length-take-le, take_all}
use Rattle.text_reasons.proofs.quoting.beginning.Goals as goal

pub slice_bounds-result-end : goal.slice_bounds-result-end
slice_bounds-result-end c = omega (arith, length-take-le 40 c.args.piece.now (omega (arith, c.if-piece-gt-MOST_SHOWN.true)))

pub returns-else-piece-gt-MOST_SHOWN : goal.returns-else-piece-gt-MOST_SHOWN
returns-else-piece-gt-MOST_SHOWN c = sym (take_all 40 c.args.piece.now c.if-piece-gt-MOST_SHOWN.false)
