use Rattle.std.proofs.Common.{refl, List, Option, ◌≡◌, ℕ, ◌++◌, ◌∷◌, [], length, Some, ap, ◌∙◌}
use Rattle.mesh_spans.specs.Index.{GroupEntry, SpanEntry, new_span, new_group}
use Rattle.mesh_spans.proofs.IndexLemmas.{IsIndex_add, IsOwned_add, one_more_fits}
use Rattle.mesh_spans.proofs.TableLemmas.{new_vacant, table_added}
use Rattle.mesh_spans.proofs.index.Spans.add_span.Goals as goal

pub push-requires : goal.push-requires
push-requires c =
    let unused = rw (← c.self.view_is) at c.requires.unused in
    one_more_fits c.self.inside.spans.items c.self.inside.groups c.args.first _ c.requires.first c.requires.last unused c.self.invariant.0

-- the spans and the groups with the new ones after the others
record IsAdded (spans spans' : List SpanEntry) (groups groups' : List (Option GroupEntry)) (first class : ℕ) (pages : List ℕ) : Type 0 where
  spans_are : spans' ≡ spans ++ new_span first class (length spans) ∷ []
  groups_are : groups' ≡ groups ++ Some (new_group class (length spans) pages) ∷ []

number : (c : goal.After-own) → c.numbered-span.result ≡ length c.self.inside.spans.items
number c = c.numbered-span.ensures ∙ c.len-number.ensures ∙ c.self.inside.spans.ok.0

added : (c : goal.After-own) → IsAdded c.self.inside.spans.items c.push_reserved.new.self.items c.self.inside.groups c.push.new.self c.args.first c.args.class c.args.pages.now
added c = record {
  spans_are = rw (c.push_reserved.ensures.items, c.reserve.ensures.items, c.new-2.ensures, ← c.numbered-span.ensures, number c) refl;
  groups_are = rw (c.in_ok-push.ensures.groups, c.in_ok-group.ensures, number c) refl;
}

pub invariant_of-self-2 : goal.invariant_of-self-2
invariant_of-self-2 c =
    let unused = rw (← c.self.view_is) at c.requires.unused in
    let is = added c in
    rw (is.spans_are, is.groups_are) (
      IsIndex_add c.self.inside.spans.items c.self.inside.groups c.args.first c.args.class c.args.pages.now
          (record { class = c.pages.ensures.class; first = c.requires.first; last = c.requires.last }) c.requires.pages unused c.self.invariant.0,
      IsOwned_add c.self.inside.spans.items c.self.inside.groups c.self.inside.owners c.own.new.self c.args.first c.args.class c.args.pages.now unused
          c.self.invariant.0 (λ v low high. c.own.ensures.own v low (rw c.pages.ensures.value high) ∙ ap (λ (n : ℕ). Some n) (number c)) c.own.ensures.below
          c.self.invariant.1,
    )

pub returns-clause-table : goal.returns-clause-table
returns-clause-table c =
    let is = added c in
    rw (is.spans_are, is.groups_are, number c, ← c.self.view_is)
    (table_added c.self.inside.spans.items c.self.inside.groups c.args.first c.args.class c.args.pages.now c.self.invariant.0)

pub returns-clause-vacant : goal.returns-clause-vacant
returns-clause-vacant c = λ slot below.
    let is = added c in
    rw (is.spans_are, is.groups_are, number c)
    (new_vacant c.self.inside.spans.items c.self.inside.groups c.args.first c.args.class slot c.args.pages.now c.self.invariant.0 below)
