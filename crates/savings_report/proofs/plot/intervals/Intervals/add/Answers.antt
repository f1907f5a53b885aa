use Rattle.std.proofs.Common.{◌≡◌, ◌+◌, ◌*◌, ◌<◌, ℕ, length, sym, ◌∙◌}
use Rattle.savings_report.specs.Intervals.{interval_at, interval_of, piece, IsWidth}
use Rattle.savings_report.proofs.PieceLemmas.{added, has_room, is_full, width_doubled, width_kept}
use Rattle.savings_report.proofs.plot.intervals.Intervals.add.Goals as goal
use Rattle.savings_report.proofs.plot.intervals.Intervals.add.Goals.{then-self-eq-MOST, else-self-eq-MOST}

pub returns-clause-value : goal.returns-clause-value
returns-clause-value c = λ rs h.
    let before = c.args.self.now in
    let mid = c.if-self-eq-MOST.self in
    let put = c.put.ensures in
    elim c.if-self-eq-MOST.branch [
      | then-self-eq-MOST w ↦
          let join = w.join.ensures in
          let full : length rs ≡ 600 * before.width = sym h.count_is ∙ is_full before.count before.width c.requires.sound.wide c.requires.sound.few w.if-self-eq-MOST.true in
          let count : mid.count ≡ length rs = rw w.self-is (join.count ∙ h.count_is) in
          let width : IsWidth mid.width (length rs + 1) =
          rw (w.self-is, join.width) (width_doubled before.width (length rs) h.width_is full c.requires.sound.wide) in
          let each : (k : ℕ) → k * mid.width < length rs → interval_at mid.list.items k ≡ interval_of (piece mid.width k rs) =
          rw w.self-is (join.pieces rs h.count_is h.each_is) in
          added mid c.put.new.self rs c.args.reading count width put.width put.count (put.pieces rs count each)
      | else-self-eq-MOST w ↦
          let room : before.count < 600 * before.width =
          has_room before.count before.width c.requires.sound.wide c.requires.sound.few w.if-self-eq-MOST.false in
          let count : mid.count ≡ length rs = rw w.self-is h.count_is in
          let width : IsWidth mid.width (length rs + 1) = rw w.self-is (width_kept before.width (length rs) h.width_is (rw (← h.count_is) room)) in
          let each : (k : ℕ) → k * mid.width < length rs → interval_at mid.list.items k ≡ interval_of (piece mid.width k rs) = rw w.self-is h.each_is in
          added mid c.put.new.self rs c.args.reading count width put.width put.count (put.pieces rs count each)
    ]
