-- How a mesher's counts go on: by a call, by a pair, by several pairs, and by a round.
use Rattle.std.proofs.Common.{◌≡◌, ℕ, zero, suc, ◌+◌, ◌<◌, ◌≤◌, List, Option, Some, None, length, take, slice_index_or, ap, subst, refl, sym, ◌∙◌, arith}
use Rattle.std.proofs.lemmas.List.Sums.{sum_by_more}
use Rattle.model_search.specs.Search.{Found}
use Rattle.model_words.specs.declared.answers.StepDone.{StepDone}
use Rattle.mesh_lock.specs.CallBudgets.{IsUsedUp}
use Rattle.mesh_shared.specs.Counts.{ArePairsTried, after_search, ended_by, no_counts, pairs_in, saturated, with_begun, with_refused, with_search, with_step, with_step_refused}
use Rattle.mesh_shared.specs.MesherRuns.{HasCounted}
use Rattle.mesh_shared.specs.declared.calls.MesherCalls.{MesherCalls}
use Rattle.mesh_shared.specs.declared.counts.MeshCounts.{MeshCounts}
use Rattle.mesh_shared.specs.declared.stops.EarlyExit.{EarlyExit}

-- a mesh that is running was begun since `old`. Since then nothing else was counted but pages
pub record IsRunning (old now : MeshCounts) : Type 0 where
  pub searches : now.searches ≡ old.searches
  pub pairs : now.pairs ≡ old.pairs
  pub begun : now.begun ≡ saturated (suc old.begun)
  pub refused : now.refused ≡ old.refused
  pub ended : saturated now.ended ≡ saturated old.ended
  pub steps_refused : now.steps_refused ≡ old.steps_refused

-- a mesh that was just begun is running
pub begun_is_running : (old now : MeshCounts) → now ≡ with_begun old → IsRunning old now
begun_is_running old now is = subst (λ (c : MeshCounts). IsRunning old c) (sym is)
    (record { searches = refl; pairs = refl; begun = refl; refused = refl; ended = refl; steps_refused = refl })

-- a step that leaves steps ends no mesh
none_ends : (left : ℕ) → (left ≡ 0 → ⊥) → ended_by left ≡ 0
none_ends zero some = absurd (some refl)
none_ends (suc left) some = refl

-- a mesh of which a step was made is running, if a step is left
pub stepped_is_running : (old now next : MeshCounts) (done : StepDone) → IsRunning old now → next ≡ with_step now done → (done.left ≡ 0 → ⊥) → IsRunning old next
stepped_is_running old now next done running is some =
    let ended : next.ended ≡ saturated (now.ended + ended_by done.left) = ap (λ (c : MeshCounts). c.ended) is in
    let none : ended_by done.left ≡ 0 = none_ends done.left some in record {
      searches = ap (λ (c : MeshCounts). c.searches) is ∙ running.searches;
      pairs = ap (λ (c : MeshCounts). c.pairs) is ∙ running.pairs;
      begun = ap (λ (c : MeshCounts). c.begun) is ∙ running.begun;
      refused = ap (λ (c : MeshCounts). c.refused) is ∙ running.refused;
      ended = omega arith;
      steps_refused = ap (λ (c : MeshCounts). c.steps_refused) is ∙ running.steps_refused;
    }

-- a pair of which `begin` was refused was tried
pub refused_is_tried : (old new : MesherCalls) → new.budget.most ≡ old.budget.most → (IsUsedUp old.budget → ⊥) → new.counts ≡ with_refused old.counts
    → ArePairsTried 1 old new
refused_is_tried old new most left is =
    let begun : new.counts.begun ≡ old.counts.begun = ap (λ (c : MeshCounts). c.begun) is in
    let refused : new.counts.refused ≡ saturated (suc old.counts.refused) = ap (λ (c : MeshCounts). c.refused) is in
    let ended : new.counts.ended ≡ old.counts.ended = ap (λ (c : MeshCounts). c.ended) is in
    let steps_refused : new.counts.steps_refused ≡ old.counts.steps_refused = ap (λ (c : MeshCounts). c.steps_refused) is in record {
      most = most;
      over = λ over. absurd (left over);
      searches = ap (λ (c : MeshCounts). c.searches) is;
      pairs = ap (λ (c : MeshCounts). c.pairs) is;
      tried = omega arith;
      all_tried = λ some. omega arith;
      closed = λ was. omega arith;
      all_closed = λ some was. omega arith;
    }

-- a pair whose mesh was begun was tried, if the calls are used up then
pub left_is_tried : (old new : MesherCalls) → new.budget.most ≡ old.budget.most → (IsUsedUp old.budget → ⊥) → IsRunning old.counts new.counts
    → IsUsedUp new.budget → ArePairsTried 1 old new
left_is_tried old new most left running over = record {
  most = most;
  over = λ was. over;
  searches = running.searches;
  pairs = running.pairs;
  tried = omega (arith, running.begun, running.refused);
  all_tried = λ some. absurd (some over);
  closed = λ was. omega (arith, running.begun, running.ended, running.steps_refused);
  all_closed = λ some was. absurd (some over);
}

-- a pair whose mesh made its last step was tried
pub ended_is_tried : (old new : MesherCalls) (now : MeshCounts) (done : StepDone) → new.budget.most ≡ old.budget.most → (IsUsedUp old.budget → ⊥)
    → IsRunning old.counts now → new.counts ≡ with_step now done → done.left ≡ 0 → ArePairsTried 1 old new
ended_is_tried old new now done most left running is last =
    let begun : new.counts.begun ≡ saturated (suc old.counts.begun) = ap (λ (c : MeshCounts). c.begun) is ∙ running.begun in
    let refused : new.counts.refused ≡ old.counts.refused = ap (λ (c : MeshCounts). c.refused) is ∙ running.refused in
    let one : ended_by done.left ≡ 1 = ap (λ (n : ℕ). ended_by n) last in
    let ended : new.counts.ended ≡ saturated (now.ended + ended_by done.left) = ap (λ (c : MeshCounts). c.ended) is in
    let was_ended : saturated now.ended ≡ saturated old.counts.ended = running.ended in
    let steps_refused : new.counts.steps_refused ≡ old.counts.steps_refused = ap (λ (c : MeshCounts). c.steps_refused) is ∙ running.steps_refused in record {
      most = most;
      over = λ over. absurd (left over);
      searches = ap (λ (c : MeshCounts). c.searches) is ∙ running.searches;
      pairs = ap (λ (c : MeshCounts). c.pairs) is ∙ running.pairs;
      tried = omega arith;
      all_tried = λ some. omega arith;
      closed = λ was. omega arith;
      all_closed = λ some was. omega arith;
    }

-- a pair whose mesh was refused a step was tried
pub broken_is_tried : (old new : MesherCalls) (now : MeshCounts) → new.budget.most ≡ old.budget.most → (IsUsedUp old.budget → ⊥) → IsRunning old.counts now
    → new.counts ≡ with_step_refused now → ArePairsTried 1 old new
broken_is_tried old new now most left running is =
    let begun : new.counts.begun ≡ saturated (suc old.counts.begun) = ap (λ (c : MeshCounts). c.begun) is ∙ running.begun in
    let refused : new.counts.refused ≡ old.counts.refused = ap (λ (c : MeshCounts). c.refused) is ∙ running.refused in
    let ended : new.counts.ended ≡ now.ended = ap (λ (c : MeshCounts). c.ended) is in
    let was_ended : saturated now.ended ≡ saturated old.counts.ended = running.ended in
    let one_more : new.counts.steps_refused ≡ saturated (suc now.steps_refused) = ap (λ (c : MeshCounts). c.steps_refused) is in
    let steps_refused : now.steps_refused ≡ old.counts.steps_refused = running.steps_refused in record {
      most = most;
      over = λ over. absurd (left over);
      searches = ap (λ (c : MeshCounts). c.searches) is ∙ running.searches;
      pairs = ap (λ (c : MeshCounts). c.pairs) is ∙ running.pairs;
      tried = omega arith;
      all_tried = λ some. omega arith;
      closed = λ was. omega arith;
      all_closed = λ some was. omega arith;
    }

-- no pair was tried yet
pub none_is_tried : (calls : MesherCalls) → ArePairsTried 0 calls calls
none_is_tried calls = record {
  most = refl;
  over = λ over. over;
  searches = refl;
  pairs = refl;
  tried = omega arith;
  all_tried = λ some. omega arith;
  closed = λ was. was;
  all_closed = λ some was. was;
}

-- after some pairs others were tried
pub more_are_tried : (n m : ℕ) (old mid new : MesherCalls) → ArePairsTried n old mid → ArePairsTried m mid new → ArePairsTried (n + m) old new
more_are_tried n m old mid new first next =
    let before : (IsUsedUp new.budget → ⊥) → IsUsedUp mid.budget → ⊥ = λ some over. some (next.over over) in record {
      most = next.most ∙ first.most;
      over = λ over. next.over (first.over over);
      searches = next.searches ∙ first.searches;
      pairs = next.pairs ∙ first.pairs;
      tried = omega (arith, first.tried, next.tried);
      all_tried = λ some. omega (arith, first.all_tried (before some), next.all_tried some);
      closed = λ was. next.closed (first.closed was);
      all_closed = λ some was. next.all_closed some (first.all_closed (before some) was);
    }

-- after some pairs one more was tried
pub one_more_is_tried : (k : ℕ) (old mid new : MesherCalls) → ArePairsTried k old mid → ArePairsTried 1 mid new → ArePairsTried (k + 1) old new
one_more_is_tried k old mid new first next = more_are_tried k 1 old mid new first next

-- after the pairs of some views those of the next view were tried
pub next_is_tried : (k : ℕ) (d : Found) (found : List Found) (n : ℕ) (old mid new : MesherCalls) → k < length found → n ≡ length (slice_index_or found k d).pairs
    → ArePairsTried (pairs_in (take k found)) old mid → ArePairsTried n mid new → ArePairsTried (pairs_in (take (k + 1) found)) old new
next_is_tried k d found n old mid new below is first next =
    let sum : pairs_in (take (k + 1) found) ≡ pairs_in (take k found) + n
    = sum_by_more (λ (one : Found). length one.pairs) found k d below ∙ ap (λ (m : ℕ). pairs_in (take k found) + m) (sym is) in
    subst (λ (m : ℕ). ArePairsTried m old new) (sym sum) (more_are_tried (pairs_in (take k found)) n old mid new first next)

-- the pairs that a search found were tried
pub found_are_tried : (a b items : List Found) (old new : MesherCalls) (counts : MeshCounts) → a ≡ items → b ≡ items → counts ≡ with_search old.counts (pairs_in a)
    → ArePairsTried (pairs_in b) (record old { counts = counts }) new → ArePairsTried (pairs_in items) (after_search old (pairs_in items)) new
found_are_tried a b items old new counts a_is b_is is pairs =
    let counted : counts ≡ with_search old.counts (pairs_in items) = is ∙ ap (λ (l : List Found). with_search old.counts (pairs_in l)) a_is in
    let of_items : ArePairsTried (pairs_in items) (record old { counts = counts }) new
    = subst (λ (l : List Found). ArePairsTried (pairs_in l) (record old { counts = counts }) new) b_is pairs in
    subst (λ (c : MeshCounts). ArePairsTried (pairs_in items) (record old { counts = c }) new) counted of_items

-- where the calls are used up, further pairs are left
pub rest_is_left : (n m : ℕ) (old new : MesherCalls) → n ≤ m → IsUsedUp new.budget → ArePairsTried n old new → ArePairsTried m old new
rest_is_left n m old new within over so_far = record {
  most = so_far.most;
  over = so_far.over;
  searches = so_far.searches;
  pairs = so_far.pairs;
  tried = omega (arith, within, so_far.tried);
  all_tried = λ some. absurd (some over);
  closed = so_far.closed;
  all_closed = λ some was. absurd (some over);
}

-- nothing was counted before the first round
pub none_is_counted : (most : Option ℕ) (made : ℕ) (stop : Option EarlyExit) (counts : MeshCounts) → counts ≡ no_counts → HasCounted 0 most made stop counts
none_is_counted most made stop counts is = subst (λ (c : MeshCounts). HasCounted 0 most made stop c) (sym is) (record {
  searched = omega arith;
  all_searched = λ some none. refl;
  tried = omega arith;
  all_tried = λ some. refl;
  closed = omega arith;
  all_closed = λ some. refl;
})

-- a round was made: a search, and the pairs that it found
pub round_is_counted : (n round : ℕ) (old new : MesherCalls) → (IsUsedUp old.budget → ⊥) → round < 4294967296
    → HasCounted round old.budget.most old.budget.made None old.counts → ArePairsTried n (after_search old n) new
    → HasCounted (round + 1) new.budget.most new.budget.made None new.counts
round_is_counted n round old new left low so_far pairs = record {
  searched = omega (arith, so_far.searched, pairs.searches);
  all_searched = λ some none. omega (arith, low, so_far.all_searched left refl, pairs.searches);
  tried = omega (arith, so_far.tried, pairs.tried, pairs.pairs);
  all_tried = λ some. omega (arith, so_far.all_tried left, pairs.all_tried some, pairs.pairs);
  closed = pairs.closed so_far.closed;
  all_closed = λ some. pairs.all_closed some (so_far.all_closed left);
}

-- where the calls are used up or a round failed, further rounds are left
pub rounds_are_left : (round rounds : ℕ) (most : Option ℕ) (made : ℕ) (stop : Option EarlyExit) (counts : MeshCounts) → round ≤ rounds
    → HasCounted round most made None counts → ((most ≡ Some made → ⊥) → stop ≡ None → ⊥) → HasCounted rounds most made stop counts
rounds_are_left round rounds most made stop counts within so_far ends = record {
  searched = omega (arith, within, so_far.searched);
  all_searched = λ some none. absurd (ends some none);
  tried = so_far.tried;
  all_tried = so_far.all_tried;
  closed = so_far.closed;
  all_closed = so_far.all_closed;
}
