use Rattle.std.proofs.Common.{◌≡◌, ℕ, ◌<◌, ◌≤◌, ◌++◌, ◌∷◌, [], List, Option, Some, IsSomeAnd, option_copied, ◌+◌, length, map, is_some, ap, sym, ◌∙◌, arith, subst, refl}
use Rattle.std.proofs.lemmas.List.{append-nil, length-append}
use Rattle.model_search.specs.Search.{Candidate, candidate_of, viewed}
use Rattle.model_heap.specs.Table.{Group}
use Rattle.mesh_search.specs.Views.{IsCandidate}
use Rattle.mesh_search.proofs.GroupViews.{AreBelow, all_more, below_more, candidate_is, from_zero, no_view, partial_is, view_more}
use Rattle.mesh_spans.specs.GroupBins.{candidates_from, is_partial}
use Rattle.mesh_spans.specs.Index.{GroupEntry, group_at}
use Rattle.mesh_spans.specs.Groups.{groups_of, is_closed, table_group}
use Rattle.mesh_search.proofs.from_index.class_view.Goals as goal

pub loop-number-init : goal.loop-number-init
loop-number-init c = rw c.new-candidates.ensures.items (refl, no_view c.args.class, λ j h. absurd (omega (arith, h)), omega arith, omega arith)

pub loop-number-smaller : goal.loop-number-smaller
loop-number-smaller c = let a = c.in-Some.ensures.least.above in let b = c.in-Some.ensures.least.below in omega (arith, a, b)

pub loop-number-preserved : goal.loop-number-preserved
loop-number-preserved c =
    let n : ℕ = c.in-Some.number in
    let group : GroupEntry = c.unwrap-group.result.now in
    let at : group_at c.args.spans.now.groups n ≡ Some group = sym c.group.ensures ∙ ap option_copied c.unwrap-group.ensures in
    let is : c.new.result ≡ record { number = n; occupied = map is_some group.slots }
    = candidate_is _ _ _ c.new.ensures.number (c.new.ensures.occupied ∙ c.copied.ensures ∙ c.occupied.ensures) in
    let least = c.in-Some.ensures.least in
    let partial = partial_is _ _ _ (c.sound.ensures.each n group at) (ap (λ (o : Option GroupEntry). is_partial o c.args.class) (sym at) ∙ least.passes) in
    let next = subst (λ (o : Option GroupEntry). IsSomeAnd o (λ g. candidates_from c.args.spans.now c.args.class c.loop-number.from
    ≡ table_group c.args.spans.now.spans n g ∷ candidates_from c.args.spans.now c.args.class (n + 1))) at c.in-Some.ensures.next in
    let inv = c.loop-number.invariant in
    let number : c.new.result.number ≡ n = c.new.ensures.number in
    let above : c.loop-number.from ≤ c.new.result.number = (let a = least.above in omega (arith, a, number)) in
    let low : n < 65536 = least.below in
    let fits : c.new.result.number < 65536 = omega (arith, low, number) in
    let items = c.in_ok-push.ensures.items in
    let few = inv.3 in (
      rw items (all_more _ _ _ _ _ _ is inv.0 next),
      rw items (view_more _ _ _ _ inv.1 inv.2 few above fits (subst (λ (x : Candidate). IsCandidate c.args.class x) (sym is) partial)),
      rw items (subst (λ (m : ℕ). AreBelow (c.loop-number.candidates.items ++ c.new.result ∷ []) (m + 1)) number (below_more _ _ _ inv.2 above)),
      omega (arith, ap length items, length-append c.loop-number.candidates.items (c.new.result ∷ []), few, above, number),
      omega (arith, low),
    )

pub new-requires-2 : goal.new-requires-2
new-requires-2 c = c.loop-number.invariant.1

pub returns : goal.returns
returns c =
    let inv = c.loop-number.invariant in
    let none : candidates_from c.args.spans.now c.args.class c.loop-number.from ≡ [] = c.in_default.ensures.none in
    let is : c.loop-number.candidates.items ≡ map candidate_of (candidates_from c.args.spans.now c.args.class 0)
    = sym (append-nil c.loop-number.candidates.items) ∙ ap (λ (gs : List Group). c.loop-number.candidates.items ++ map candidate_of gs) (sym none) ∙ inv.0 in
    c.new-2.ensures ∙ ap (λ (cs : List Candidate). record { class = c.args.class; candidates = cs }) is
    ∙ ap (λ (gs : List Group). viewed c.args.class gs) (from_zero (is_closed c.args.spans.now) c.args.class (groups_of c.args.spans.now))
