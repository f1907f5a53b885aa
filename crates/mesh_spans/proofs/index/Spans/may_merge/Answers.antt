use Rattle.std.proofs.Common.{◌≡◌, not, ap, sym, ◌∙◌}
use Rattle.model_heap.specs.Mesh.{do_overlap}
use Rattle.mesh_spans.proofs.PairLemmas.{allows, overlap_told, refuses_busy, refuses_class, refuses_members, refuses_none, refuses_overlap, refuses_same, same_slots}
use Rattle.mesh_spans.proofs.index.Spans.may_merge.Goals as goal
use Rattle.mesh_spans.proofs.index.Spans.may_merge.Goals.{After-disjoint}

pub returns-in_default-clause-refused : goal.returns-in_default-clause-refused
returns-in_default-clause-refused c = refuses_none c.args.self.now c.args.source c.args.destination c.args.is_busy c.in_default.ensures.none

pub returns-then-source-destination-clause-refused : goal.returns-then-source-destination-clause-refused
returns-then-source-destination-clause-refused c =
    refuses_same c.args.self.now c.args.source c.args.destination c.args.is_busy c.in-Some.from.now c.in-Some.into.now
    c.in-Some.ensures.some c.if-source-destination.true

pub returns-then-size-clause-refused : goal.returns-then-size-clause-refused
returns-then-size-clause-refused c =
    refuses_class c.args.self.now c.args.source c.args.destination c.args.is_busy c.in-Some.from.now c.in-Some.into.now
    c.in-Some.ensures.some c.if-source-destination.false
    (λ same. c.if-size.true (c.size.ensures.value ∙ c.class.ensures ∙ same ∙ sym (c.size-2.ensures.value ∙ c.class-2.ensures)))

pub returns-then-is_busy-clause-refused : goal.returns-then-is_busy-clause-refused
returns-then-is_busy-clause-refused c =
    refuses_busy c.args.self.now c.args.source c.args.destination c.args.is_busy c.in-Some.from.now c.in-Some.into.now
    c.in-Some.ensures.some c.if-source-destination.false
    (sym (c.size.ensures.value ∙ c.class.ensures) ∙ c.if-size.false ∙ c.size-2.ensures.value ∙ c.class-2.ensures) c.if-is_busy.true

pub disjoint-requires : goal.disjoint-requires
disjoint-requires c =
    rw (c.occupied.ensures, c.occupied-2.ensures) (same_slots c.args.self.now c.args.source c.args.destination _ _ c.sound.ensures c.in-Some.ensures.some
    (sym (c.size.ensures.value ∙ c.class.ensures) ∙ c.if-size.false ∙ c.size-2.ensures.value ∙ c.class-2.ensures))

-- the two groups are of one class
one_class : (c : After-disjoint) → c.in-Some.from.now.class ≡ c.in-Some.into.now.class
one_class c = sym (c.size.ensures.value ∙ c.class.ensures) ∙ c.if-size.false ∙ c.size-2.ensures.value ∙ c.class-2.ensures

-- and whether their slots overlap was told
overlap : (c : After-disjoint) → do_overlap c.in-Some.from.now.slots c.in-Some.into.now.slots ≡ not c.disjoint.result
overlap c = overlap_told c.in-Some.from.now c.in-Some.into.now c.disjoint.result (rw (← c.occupied.ensures, ← c.occupied-2.ensures) c.disjoint.ensures.meshable)

pub returns-then-not-disjoint-clause-refused : goal.returns-then-not-disjoint-clause-refused
returns-then-not-disjoint-clause-refused c =
    let at = (goal.at.returns-then-not-disjoint-clause-refused c).After-disjoint in
    refuses_overlap c.args.self.now c.args.source c.args.destination c.args.is_busy c.in-Some.from.now c.in-Some.into.now
    c.in-Some.ensures.some c.if-source-destination.false (one_class at) c.if-is_busy.false (overlap at ∙ ap not c.if-not-disjoint.true)

pub returns-then-members-gt-MAX_MEMBERS-clause-refused : goal.returns-then-members-gt-MAX_MEMBERS-clause-refused
returns-then-members-gt-MAX_MEMBERS-clause-refused c =
    let at = (goal.at.returns-then-members-gt-MAX_MEMBERS-clause-refused c).After-disjoint in
    refuses_members c.args.self.now c.args.source c.args.destination c.args.is_busy c.in-Some.from.now c.in-Some.into.now
    c.in-Some.ensures.some c.if-source-destination.false (one_class at) c.if-is_busy.false (overlap at ∙ ap not c.if-not-disjoint.false)
    (rw (← c.members.ensures.value, ← c.members-2.ensures.value) c.if-members-gt-MAX_MEMBERS.true)

pub returns-clause-may : goal.returns-clause-may
returns-clause-may c =
    let at = (goal.at.returns-clause-may c).After-disjoint in
    allows c.args.self.now c.args.source c.args.destination c.args.is_busy c.in-Some.from.now c.in-Some.into.now
    c.in-Some.ensures.some c.if-source-destination.false (one_class at) c.if-is_busy.false (overlap at ∙ ap not c.if-not-disjoint.false)
    (rw (← c.members.ensures.value, ← c.members-2.ensures.value) c.if-members-gt-MAX_MEMBERS.false)
