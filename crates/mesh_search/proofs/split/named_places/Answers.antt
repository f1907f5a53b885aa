use Rattle.std.proofs.Common.{◌≡◌, ℕ, ◌+◌, ◌<◌, ◌≤◌, ◌++◌, ◌∷◌, [], List, length, take, slice_index, ap, subst, sym, ◌∙◌, arith}
use Rattle.std.proofs.lemmas.List.{take_all, take_more, map_push}
use Rattle.model_search.specs.Search.{View}
use Rattle.mesh_search.specs.Views.{AreOnce, candidate_at, candidate_named, chosen, named}
use Rattle.mesh_search.proofs.CandidatePlaces.{few_named, named_once}
use Rattle.mesh_search.proofs.split.named_places.Goals as goal

pub push_reserved-requires : goal.push_reserved-requires
push_reserved-requires c =
    omega (arith, c.loop-k.invariant, c.loop-k-test.true, c.loop-k.auto.k-end, few_named c.args.view.now c.args.numbers.now c.requires)

-- the candidate at one place more has the next number
named_more : (view : View) (places pushed numbers : List ℕ) (k place : ℕ) → k < length numbers
    → candidate_at view place ≡ candidate_named view (slice_index numbers k) → chosen view places ≡ named view (take k numbers)
    → pushed ≡ places ++ place ∷ [] → chosen view pushed ≡ named view (take (k + 1) numbers)
named_more view places pushed numbers k place below at before is =
    let last = map_push (candidate_at view) places place in
    let more = take_more numbers k 0 below in
    let next = map_push (candidate_named view) (take k numbers) (slice_index numbers k) in
    cc

pub loop-k-preserved : goal.loop-k-preserved
loop-k-preserved c = (
  named_more c.args.view.now c.loop-k.places.items c.push_reserved.new.self.items c.args.numbers.now c.loop-k.k c.place_of.result c.loop-k-test.true
      c.place_of.ensures.candidate c.loop-k.invariant.0 c.push_reserved.ensures.items,
  c.push_reserved.ensures.len ∙ ap (λ (n : ℕ). n + 1) c.loop-k.invariant.1,
  subst (λ (n : ℕ). length c.args.view.now.candidates ≤ n) (sym c.push_reserved.ensures.capacity) c.loop-k.invariant.2,
  c.loop-k.invariant.3,
)

pub returns-clause-few : goal.returns-clause-few
returns-clause-few c = omega (arith, c.loop-k.invariant, c.loop-k.auto.k-end, few_named c.args.view.now c.args.numbers.now c.requires)

pub returns-clause-once : goal.returns-clause-once
returns-clause-once c =
    let view : View = c.args.view.now in
    let numbers : List ℕ = c.args.numbers.now in
    let end = c.loop-k.auto.k-end in
    let past = c.loop-k-test.false in
    let is : chosen view c.loop-k.places.items ≡ named view numbers
    = c.loop-k.invariant.0 ∙ ap (λ (ns : List ℕ). named view ns) (take_all c.loop-k.k numbers (omega arith)) in
    subst AreOnce (sym is) (named_once view numbers c.requires)
