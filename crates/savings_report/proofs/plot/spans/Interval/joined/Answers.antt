use Rattle.std.proofs.Common.{◌≡◌, ◌++◌, map, ap, sym, ◌∙◌}
use Rattle.savings_report.specs.Intervals.{last_reading, span_of}
use Rattle.savings_report.specs.declared.plot.readings.Reading.{Reading}
use Rattle.savings_report.specs.declared.plot.spans.Interval.{Interval}
use Rattle.savings_report.proofs.SpanLemmas.{joined_span, last_append}
use Rattle.savings_report.proofs.plot.spans.Interval.joined.Goals as goal

pub returns : goal.returns
returns c = λ these those some others first second.
    let without : c.joined.result ≡ span_of (map (λ (r : Reading). r.without) (these ++ those)) =
    joined_span (λ (r : Reading). r.without) c.joined.result _ _ these those some others c.joined.ensures.least c.joined.ensures.greatest
    (ap (λ (i : Interval). i.without) first) (ap (λ (i : Interval). i.without) second) in
    let with : c.joined-2.result ≡ span_of (map (λ (r : Reading). r.with) (these ++ those)) =
    joined_span (λ (r : Reading). r.with) c.joined-2.result _ _ these those some others c.joined-2.ensures.least c.joined-2.ensures.greatest
    (ap (λ (i : Interval). i.with) first) (ap (λ (i : Interval). i.with) second) in
    let perfect : c.joined-3.result ≡ span_of (map (λ (r : Reading). r.perfect) (these ++ those)) =
    joined_span (λ (r : Reading). r.perfect) c.joined-3.result _ _ these those some others c.joined-3.ensures.least c.joined-3.ensures.greatest
    (ap (λ (i : Interval). i.perfect) first) (ap (λ (i : Interval). i.perfect) second) in
    let live : c.joined-4.result ≡ span_of (map (λ (r : Reading). r.live) (these ++ those)) =
    joined_span (λ (r : Reading). r.live) c.joined-4.result _ _ these those some others c.joined-4.ensures.least c.joined-4.ensures.greatest
    (ap (λ (i : Interval). i.live) first) (ap (λ (i : Interval). i.live) second) in
    let last : c.args.next.last ≡ last_reading (these ++ those) =
    ap (λ (i : Interval). i.last) second ∙ sym (last_append these those others) in
    rw (without, with, perfect, live, last)
