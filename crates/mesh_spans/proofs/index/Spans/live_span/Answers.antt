use Rattle.std.proofs.Common.{◌≡◌, Some, None, slice_index, sym, ◌∙◌, arith}
use Rattle.std.proofs.lemmas.Grind.{common_steps}
use Rattle.mesh_spans.specs.Index.{no_span, span_at}
use Rattle.mesh_spans.proofs.IndexLemmas.{leads_from, leads_to}
use Rattle.mesh_spans.proofs.index.Spans.live_span.Goals as goal

pub returns-in_err-span-clause-found : goal.returns-in_err-span-clause-found
returns-in_err-span-clause-found c = rw (← c.self.view_is) (λ n place k o group at within below small is.
    let leads = leads_to c.self.inside.spans.items c.self.inside.groups c.self.inside.owners n place k o c.args.addr group c.self.invariant at within below small is in
    absurd (cc (sym c.in_err-span.was ∙ c.of.ensures ∙ leads.owner)))

pub returns-in_err-extent-clause-found : goal.returns-in_err-extent-clause-found
returns-in_err-extent-clause-found c = rw (← c.self.view_is) (λ n place k o group at within below small is.
    let leads = leads_from _ _ c.self.inside.owners n place k o c.args.addr group _ _ c.of.ensures c.in_ok-span.was c.self.invariant at within below small is in
    let span : c.in_ok-span.span ≡ slice_index group.members place = leads.1 in
    let two : Some (span_at c.self.inside.spans.items (slice_index group.members place)) ≡ None = sym leads.0.got ∙ (grind (arith, common_steps)) in
    absurd (cc two))

pub returns-in_err-group-clause-found : goal.returns-in_err-group-clause-found
returns-in_err-group-clause-found c = rw (← c.self.view_is) (λ n place k o group at within below small is.
    let leads = leads_from _ _ c.self.inside.owners n place k o c.args.addr group _ _ c.of.ensures c.in_ok-span.was c.self.invariant at within below small is in
    let entry = rw (c.deref.ensures.value, c.index.ensures, leads.1) at (c.in_ok-extent.ensures.lookup.3.1 no_span) in
    absurd (cc ((rw (c.group.ensures, entry, ← c.self.view_is) at c.in_err-group.ensures) ∙ leads.0.there)))

pub returns-clause-found : goal.returns-clause-found
returns-clause-found c = rw (← c.self.view_is) (λ n place k o group at within below small is.
    let leads = leads_from _ _ c.self.inside.owners n place k o c.args.addr group _ _ c.of.ensures c.in_ok-span.was c.self.invariant at within below small is in
    rw leads.1 leads.0.led)
