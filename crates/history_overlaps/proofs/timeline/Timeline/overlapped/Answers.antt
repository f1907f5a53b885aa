use Rattle.std.proofs.Common.{◌+◌, ◌-◌, sym, arith}
use Rattle.history_overlaps.specs.Standing.{lives_of, starts_of}
use Rattle.history_overlaps.proofs.EndRanges.{nearest_ends, none_begins}
use Rattle.history_overlaps.proofs.timeline.Timeline.overlapped.Goals as goal

pub returns-in_err-cell-clause-none : goal.returns-in_err-cell-clause-none
returns-in_err-cell-clause-none c = λ none.
    let a = c.from.ensures in let b = c.from-2.ensures in let some = c.requires in
    none_begins (lives_of c.args.self.now) (starts_of c.args.self.now) c.args.object (c.from.result + c.from-2.result - 1) (omega (arith, a, b, some)) c.in_err-cell.ensures

pub returns-then-end_of-from-clause-none : goal.returns-then-end_of-from-clause-none
returns-then-end_of-from-clause-none c = λ none.
    let a = c.from.ensures in let b = c.from-2.ensures in let some = c.requires in
    let before = c.if-end_of-from.true in let end = c.end_of.ensures in let start = c.from-4.ensures in
    nearest_ends (lives_of c.args.self.now) (starts_of c.args.self.now) c.args.object (c.from.result + c.from-2.result - 1) (omega (arith, a, b, some))
    c.in_ok-cell.cell c.in_ok-cell.ensures c.in_ok-life.life.now (sym c.in_ok-life.ensures.value) (omega (arith, before, end, start))
