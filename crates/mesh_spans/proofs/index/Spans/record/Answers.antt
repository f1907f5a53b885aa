use Rattle.std.proofs.Common.{◌≡◌, Option, Some, None, slice_get, slice_index_or, sym, ap, ◌∙◌}
use Rattle.std.proofs.lemmas.Option.{slice_get-get_or}
use Rattle.mesh_spans.specs.Index.{GroupEntry, Index, SpanEntry, group_at, named_in, no_span, record_at, span_record, slot_in}
use Rattle.mesh_spans.proofs.IndexLemmas.{recorded_if}
use Rattle.mesh_spans.proofs.index.Spans.record.Goals as goal

pub returns-clause-object : goal.returns-clause-object
returns-clause-object c =
    let got = slice_get-get_or c.deref.result.now c.index.result no_span c.in_ok-extent.ensures.lookup.3.0
    ∙ ap (λ (s : SpanEntry). Some s) (sym (c.in_ok-extent.ensures.lookup.3.1 no_span)) in
    let group : group_at c.self.inside.groups c.in_ok-extent.extent.now.group ≡ Some c.in_ok-group.group.now
    = sym (rw c.group.ensures at c.in_ok-group.ensures) in
    let named : c.object_of.result ≡ named_in c.in_ok-extent.extent.now.first (slice_index_or c.in_ok-group.group.now.slots c.args.slot None)
    = rw (← c.first.ensures.value) c.object_of.ensures.value in
    let here : span_record (slice_get c.self.inside.spans.items c.args.span) c.self.inside.groups c.args.slot
    ≡ named_in c.in_ok-extent.extent.now.first (slice_index_or c.in_ok-group.group.now.slots c.args.slot None)
    = ap (λ (o : Option SpanEntry). span_record o c.self.inside.groups c.args.slot) (rw (c.deref.ensures.value, c.index.ensures) at got)
    ∙ ap (λ (o : Option GroupEntry). named_in c.in_ok-extent.extent.now.first (slot_in o c.args.slot)) group in
    recorded_if _ _ _ _ _ _ c.self.view_is c.self.invariant.0 (named ∙ sym here ∙ ap (λ (x : Index). record_at x c.args.span c.args.slot) c.self.view_is)
