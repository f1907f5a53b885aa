use Rattle.std.proofs.Common.{◌≡◌, true, false, arith, sym, ◌∙◌}
use Rattle.history_witness.specs.TakenLines.{taken_in}
use Rattle.history_witness.proofs.KeptLines.{below_left, below_taken, below_within}
use Rattle.history_witness.proofs.lines.line_among.Goals as goal
use Rattle.history_witness.proofs.lines.line_among.Goals.{then-is_taken, else-is_taken}

pub loop-place-preserved : goal.loop-place-preserved
loop-place-preserved c = λ small.
    let taken = taken_in c.args.taken.now in
    let place = c.loop-place.place in
    let is = c.loop-place.invariant small in
    let within = below_within taken place in
    let before = c.loop-place-test.true in
    elim c.if-is_taken.branch [
      | then-is_taken w ↦ (
          let on : taken place ≡ true = sym c.is_taken.ensures ∙ w.if-is_taken.true in
          let more = below_taken taken place on in
          let line = w.line-is in
          let sum = w.saturating_add-line.ensures in
          first_of (omega (arith, is, within, before, small, more, line, sum), grind (arith, is, within, before, small, more, line, sum)))
      | else-is_taken w ↦ (
          let off : taken place ≡ false = sym c.is_taken.ensures ∙ w.if-is_taken.false in
          w.line-is ∙ is ∙ (let less = below_left taken place off in omega (arith, less)))
    ]
