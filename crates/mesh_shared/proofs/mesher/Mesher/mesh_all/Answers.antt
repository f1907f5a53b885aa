use Rattle.std.proofs.Common.{◌≡◌, ℕ, List, length, slice_index_or, ap, refl, subst, sym, ◌∙◌, arith}
use Rattle.std.proofs.lemmas.List.{length-map, take_all}
use Rattle.model_search.specs.Search.{Found, Pairing}
use Rattle.mesh_lock.specs.CallBudgets.{IsUsedUp}
use Rattle.mesh_shared.specs.Counts.{ArePairsTried, pairs_in}
use Rattle.mesh_shared.proofs.MesherCounts.{next_is_tried, none_is_tried}
use Rattle.mesh_shared.proofs.mesher.Mesher.mesh_all.Goals as goal
use Rattle.mesh_shared.proofs.mesher.Mesher.mesh_all.Goals.{then-mesh_pairs-pairs, else-mesh_pairs-pairs}

pub loop-k-init : goal.loop-k-init
loop-k-init g c = (omega arith, λ left. refl, none_is_tried _)

pub loop-k-preserved : goal.loop-k-preserved
loop-k-preserved g c =
    let was = c.loop-k.invariant in
    let ensures = c.mesh_pairs.ensures in
    let pairs = c.as_slice-pairs.result.now in
    let many : length pairs ≡ length (slice_index_or c.args.found.now c.loop-k.k c.index-found-k.result).pairs
    = sym (length-map {B = Pairing} pairs (λ numbers. record { source = numbers.0; destination = numbers.1 }))
    ∙ ap (λ (l : List Pairing). length l) c.as_slice-pairs.ensures
    ∙ ap (λ (one : Found). length one.pairs) (c.one.view_is ∙ c.index-found-k.is) in
    let tried = next_is_tried c.loop-k.k c.index-found-k.result c.args.found.now (length pairs) c.args.calls.now c.loop-k.calls c.mesh_pairs.new.calls c.loop-k-test.true
    many was.2 ensures.tried in
    let before : (IsUsedUp c.mesh_pairs.new.calls.budget → ⊥) → c.loop-k.whole ≡ c.loop-k.k = λ left. was.1 (λ over. left (ensures.tried.over over)) in
    elim c.if-mesh_pairs-pairs.branch [
      | then-mesh_pairs-pairs w ↦ (
        (let is = w.whole-is in let below = was.0 in omega (arith, is, below)),
        (λ left. (let is = w.whole-is in let same = before left in omega (arith, is, same))),
        tried,
      )
      | else-mesh_pairs-pairs w ↦ (
        (let is = w.whole-is in let below = was.0 in omega (arith, is, below)),
        (λ left. absurd (w.if-mesh_pairs-pairs.false (ensures.whole left))),
        tried,
      )
    ]

pub returns : goal.returns
returns g c =
    let was = c.loop-k.invariant in record {
      whole = λ left. (let same = was.1 left in let past = c.loop-k-test.false in omega (arith, same, past));
      tried = subst (λ (l : List Found). ArePairsTried (pairs_in l) c.args.calls.now c.loop-k.calls) (take_all c.loop-k.k c.args.found.now c.loop-k-test.false) was.2;
    }
