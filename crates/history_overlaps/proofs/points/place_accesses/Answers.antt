use Rattle.std.proofs.Common.{ℕ, max, arith, ap, sym, ◌∙◌}
use Rattle.history_reading.specs.declared.words.TimedCall.{TimedCall}
use Rattle.history_overlaps.proofs.Placing.{placed_on}
use Rattle.history_overlaps.proofs.points.place_accesses.Goals as goal

pub loop-place-preserved : goal.loop-place-preserved
loop-place-preserved c =
    let on = placed_on c.args.calls.now c.args.points.now.items c.loop-place.points.items c.args.order.now c.loop-place.place c.loop-place.moment c.index-calls-number.result
    c.max-moment.result (omega arith) (c.requires.numbers c.loop-place.place 0 (omega arith)) c.requires.once (c.loop-place.invariant.0 ∙ c.requires.many) c.index-calls-number.is
    (c.max-moment.ensures ∙ ap (λ (begin : ℕ). max begin c.loop-place.moment) c.from.ensures
    ∙ ap (λ (call : TimedCall). max call.begin c.loop-place.moment) (sym c.index-calls-number.is)) c.loop-place.invariant in on
